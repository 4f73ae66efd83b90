use Rattle.std.proofs.Common.{◌≡◌, length, sym}
use Rattle.pq_store.specs.Moves.{Moves}
use Rattle.pq_store.proofs.Moving.{roots_moved, compaction}
use Rattle.pq_store.proofs.store.Store.compacted.Goals as goal

pub moved-requires-clause-sides : goal.moved-requires-clause-sides
moved-requires-clause-sides g c = rw c.deref.ensures.value c.in_ok-kept.ensures.sides

pub moved_ids-requires : goal.moved_ids-requires
moved_ids-requires g c =
    let moves : Moves c.args.self.now c.in_ok-kept.kept.items c.in_ok-moved.moved.items c.moved.new.compact =
    rw (sym c.deref.ensures.value) c.in_ok-moved.ensures.moves in
    let each : length c.in_ok-moved.moved.items ≡ length c.in_ok-kept.kept.items = rw (sym c.deref.ensures.value) c.in_ok-moved.ensures.each in
    rw c.deref-2.ensures.value
    (roots_moved c.args.self.now c.args.roots.now c.in_ok-kept.kept.items c.in_ok-moved.moved.items c.moved.new.compact c.in_ok-kept.ensures moves each)

pub returns : goal.returns
returns g c =
    let moves : Moves c.args.self.now c.in_ok-kept.kept.items c.in_ok-moved.moved.items c.moved.new.compact =
    rw (sym c.deref.ensures.value) c.in_ok-moved.ensures.moves in
    compaction c.args.self.now c.args.roots.now c.in_ok-kept.kept.items c.in_ok-moved.moved.items c.moved.new.compact c.in_ok-ids.ids.items
    c.in_ok-kept.ensures moves (rw c.deref-2.ensures.value at c.in_ok-ids.ensures)
