use Rattle.std.proofs.Common.{◌≡◌, max, drop}
use Rattle.pq_expr.specs.Expr.{bounds, expr_trees}
use Rattle.pq_expr.proofs.+bound.Given as goal

abbrev pub invariant-numbers::greatest_bound-loop-expr :
    goal.invariant-numbers::greatest_bound-loop-expr
invariant-numbers::greatest_bound-loop-expr l = max l.greatest (bounds (expr_trees (drop l.expr-index l.exprs))) ≡ bounds (expr_trees l.exprs)
