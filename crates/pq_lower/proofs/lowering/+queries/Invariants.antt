use Rattle.std.proofs.Common.{◌+◌, ◌++◌, map, drop, length}
use Rattle.pq_expr.specs.Expr.{expr_tree}
use Rattle.pq_fields.specs.Pred.{pred_tree}
use Rattle.pq_query.specs.Labels.{groups_of}
use Rattle.pq_query.specs.Query.{queries, query_tree}
use Rattle.pq_lower.specs.Added.{preds_of}
use Rattle.pq_lower.specs.Lowered.{lowered_each}
use Rattle.pq_lower.proofs.Going.{Going}
use Rattle.pq_lower.proofs.lowering.+queries.Given as goal

-- the operands that are left make the whole
abbrev pub invariant-lower_each-loop-query : goal.invariant-lower_each-loop-query
invariant-lower_each-loop-query l =
    Going l.base l.label (lowered_each l.base (l.base + length l.initial.added.items) (queries (map query_tree l.operands)))
    (map pred_tree l.initial.added.items ++ preds_of (queries (map query_tree l.operands)) (drop l.initial.place l.label))
    (drop (length (groups_of (queries (map query_tree l.operands)))) (drop l.initial.place l.label))
    (map query_tree (drop l.query-index l.operands)) l.place (length l.added.items) (map pred_tree l.added.items)
    (map expr_tree l.exprs.items)
