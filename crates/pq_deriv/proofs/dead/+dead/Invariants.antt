use Rattle.std.proofs.Common.{◌≡◌, false, length, drop}
use Rattle.std.specs.List.{list_any, list_all}
use Rattle.pq_expr.specs.Word.{Word}
use Rattle.pq_expr.specs.Expr.{expr_trees}
use Rattle.pq_deriv.specs.Parts.{parts}
use Rattle.pq_deriv.specs.Left.{lefts, each_left}
use Rattle.pq_deriv.proofs.dead.+dead.Given as goal

abbrev pub invariant-all_are_dead-loop-expr : goal.invariant-all_are_dead-loop-expr
invariant-all_are_dead-loop-expr l = (w : Word) →
    list_any (λ b. b) (each_left (lefts (expr_trees (drop l.expr-index l.exprs))) (parts (length (lefts (expr_trees (drop l.expr-index l.exprs)))) l.left) w)
    ≡ list_any (λ b. b) (each_left (lefts (expr_trees l.exprs)) (parts (length (lefts (expr_trees l.exprs))) l.rest) w)

abbrev pub invariant-one_is_dead-loop-expr : goal.invariant-one_is_dead-loop-expr
invariant-one_is_dead-loop-expr l = (w : Word) →
    list_all (λ b. b) (each_left (lefts (expr_trees (drop l.expr-index l.exprs)))
    (parts (length (lefts (expr_trees (drop l.expr-index l.exprs)))) l.left) w) ≡ false
    → list_all (λ b. b) (each_left (lefts (expr_trees l.exprs)) (parts (length (lefts (expr_trees l.exprs))) l.rest) w) ≡ false
