use Rattle.std.proofs.Common.{ℕ, subst, sym}
use Rattle.std.proofs.lemmas.List.Elements.{all_zip_more}
use Rattle.pq_store.specs.Moves.{MovesTo}
use Rattle.pq_store.proofs.compaction.moved_ids.Goals as goal

pub moved_to-requires : goal.moved_to-requires
moved_to-requires c =
    subst (λ (root : ℕ). (id : ℕ) × MovesTo c.args.moved.now root id) (sym c.root-item.is)
    (c.requires c.loop-root.root-index c.root-item.result c.loop-root-test.true)

pub loop-root-preserved : goal.loop-root-preserved
loop-root-preserved c =
    rw c.in_ok-push.ensures.items
    (all_zip_more (MovesTo c.args.moved.now) c.args.roots.now c.loop-root.ids.items c.loop-root.root-index c.root-item.result c.moved_to.result
    c.loop-root-test.true c.root-item.is c.loop-root.invariant c.moved_to.ensures)
