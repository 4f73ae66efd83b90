use Rattle.std.proofs.Common.{◌≡◌, [], drop}
use Rattle.std.specs.List.{list_any, list_all}
use Rattle.pq_expr.specs.Expr.{expr_trees}
use Rattle.pq_expr.specs.Language.{languages}
use Rattle.pq_deriv.proofs.empties.+empties.Given as goal

abbrev pub invariant-all_hold_empty-loop-expr : goal.invariant-all_hold_empty-loop-expr
invariant-all_hold_empty-loop-expr l = list_all (λ P. P []) (languages (expr_trees (drop l.expr-index l.exprs)))
    ≡ list_all (λ P. P []) (languages (expr_trees l.exprs))

abbrev pub invariant-one_holds_empty-loop-expr : goal.invariant-one_holds_empty-loop-expr
invariant-one_holds_empty-loop-expr l = list_any (λ P. P []) (languages (expr_trees (drop l.expr-index l.exprs)))
    ≡ list_any (λ P. P []) (languages (expr_trees l.exprs))
