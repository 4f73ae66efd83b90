use Rattle.std.proofs.Common.{◌+◌, ◌∙◌, ap, ℕ, arith}
use Rattle.pq_command.proofs.Labels.{counts_one}
use Rattle.pq_command.proofs.summary.count_labels.Goals as goal

pub overflow_add-total : goal.overflow_add-total
overflow_add-total c =
    let labels = c.label_count-total.result in
    let one = counts_one c.args.topology.now c.args.queries.now c.loop-query.query-index labels c.query-item.result c.query-item.is
    c.loop-query-test.true c.requires c.label_count-total.ensures in
    omega (arith, one.few, c.loop-query.invariant)

pub loop-query-preserved : goal.loop-query-preserved
loop-query-preserved c =
    let labels = c.label_count-total.result in
    let one = counts_one c.args.topology.now c.args.queries.now c.loop-query.query-index labels c.query-item.result c.query-item.is
    c.loop-query-test.true c.requires c.label_count-total.ensures in
    ap (λ (n : ℕ). n + labels) c.loop-query.invariant ∙ one.more
