use Rattle.std.proofs.Common.{ap, ◌∙◌}
use Rattle.pq_auto.specs.Tables.{holds_at}
use Rattle.pq_auto.proofs.Products.{accepting_more}
use Rattle.pq_auto.proofs.product.accepting.Goals as goal
use Rattle.pq_auto.proofs.product.accepting.Goals.{then-holds+in_ok-push, else-holds}

pub loop-place-preserved : goal.loop-place-preserved
loop-place-preserved c =
    accepting_more c.args.tables.now c.loop-place.place c.args.state.now c.index-tables-place.result c.loop-place.places.items
    c.if-holds.places.items c.holds.result c.loop-place-test.true c.index-tables-place.is
    (c.holds.ensures ∙ ap (holds_at c.index-tables-place.result) c.number_at.ensures)
    (elim c.if-holds.branch [
      | then-holds+in_ok-push w ↦ rw w.if-holds.true (ap (λ v. v.items) w.places-is ∙ w.in_ok-push.ensures.items)
      | else-holds w ↦ rw w.if-holds.false (ap (λ v. v.items) w.places-is)
    ]) ∙ c.loop-place.invariant
