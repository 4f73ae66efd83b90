use Rattle.std.proofs.Common.{false, refl, sym, true≢false}
use Rattle.std.specs.Prelude.{IsTrue}
use Rattle.pq_store.specs.Test.{Precedes}
use Rattle.pq_store.specs.Tree.Tree.{Tip, Fork}
use Rattle.pq_apply.proofs.Places.{splits_later, splits_root}
use Rattle.pq_apply.proofs.splitting.split.Goals as goal
use Rattle.pq_apply.proofs.splitting.split.Goals.{in_default-via-in-Node+else-not-precedes, in_default-via-in_default}

pub returns-in-Node : goal.returns-in-Node
returns-in-Node g c =
    let tells : (IsTrue false → Precedes c.args.test c.in-Node.root) × (Precedes c.args.test c.in-Node.root → IsTrue false) =
    rw c.if-not-precedes.true at c.precedes.ensures in
    splits_root c.args.store.now c.args.test c.in-Node.root c.args.node c.in-Node.yes c.in-Node.no c.in-Node.ensures.shows c.requires.leads
    (λ before. true≢false (sym (tells.1 before)))

pub returns-in_default : goal.returns-in_default
returns-in_default g c = elim c.in_default.branch [
  | in_default-via-in-Node+else-not-precedes w ↦ (
      let shows = w.in-Node.ensures.shows in
      splits_later c.args.store.now c.args.test c.args.node c.past.result (Fork w.in-Node.root shows.yes_tree shows.no_tree) shows.is
      (w.if-not-precedes.ensures.0 refl) c.past.ensures.past)
  | in_default-via-in_default w ↦ splits_later c.args.store.now c.args.test c.args.node c.past.result
      (Tip w.in_default.field-0.now) w.in_default.ensures.shows tt c.past.ensures.past
]
