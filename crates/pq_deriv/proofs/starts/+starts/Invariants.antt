use Rattle.std.proofs.Common.{ℕ, List, ◌++◌, drop}
use Rattle.pq_expr.specs.Expr.{expr_trees}
use Rattle.pq_deriv.specs.Choices.{IsOneOf}
use Rattle.pq_deriv.specs.Rests.{in_parts, rests}
use Rattle.pq_deriv.specs.Stepped.{AreStarts}
use Rattle.pq_deriv.proofs.starts.+starts.Given as goal

abbrev pub invariant-start_each-loop-expr : goal.invariant-start_each-loop-expr
invariant-start_each-loop-expr l =
    ((more : List ℕ) → AreStarts (expr_trees (drop l.expr-index l.exprs)) more → AreStarts (expr_trees l.exprs) (l.out.items ++ more))
    × ((more : List ℕ) → IsOneOf (in_parts (rests (expr_trees (drop l.expr-index l.exprs)))) more
    → IsOneOf (in_parts (rests (expr_trees l.exprs))) (l.out.items ++ more))
