use Rattle.std.proofs.Common.{◌≡◌, [], ◌∷◌, ◌-◌, length, drop}
use Rattle.std.specs.List.{list_any, list_all}
use Rattle.pq_expr.specs.Expr.{expr_tree, expr_trees}
use Rattle.pq_expr.specs.Language.{languages}
use Rattle.pq_deriv.specs.Parts.{parts, members, spread}
use Rattle.pq_deriv.specs.Left.{left, lefts, turn_left, each_left}
use Rattle.pq_deriv.specs.Stepped.{some_ends}
use Rattle.pq_deriv.proofs.Idle.{ends_from}
use Rattle.pq_deriv.proofs.ends.+ends.Given as goal

abbrev pub invariant-all_end-loop-expr : goal.invariant-all_end-loop-expr
invariant-all_end-loop-expr l =
    list_all (λ b. b) (each_left (lefts (expr_trees (drop l.expr-index l.exprs))) (parts (length (lefts (expr_trees (drop l.expr-index l.exprs)))) l.left) [])
    ≡ list_all (λ b. b) (each_left (lefts (expr_trees l.exprs)) (parts (length (lefts (expr_trees l.exprs))) l.rest) [])

abbrev pub invariant-one_ends-loop-expr : goal.invariant-one_ends-loop-expr
invariant-one_ends-loop-expr l =
    list_any (λ b. b) (each_left (lefts (expr_trees (drop l.expr-index l.exprs))) (parts (length (lefts (expr_trees (drop l.expr-index l.exprs)))) l.left) [])
    ≡ list_any (λ b. b) (each_left (lefts (expr_trees l.exprs)) (parts (length (lefts (expr_trees l.exprs))) l.rest) [])

abbrev pub invariant-member_ends-loop-more : goal.invariant-member_ends-loop-more
invariant-member_ends-loop-more l = some_ends (left (expr_tree l.expr)) (parts l.more l.left) ≡ some_ends (left (expr_tree l.expr)) (members l.set)

abbrev pub decreases-member_ends-loop-more : goal.decreases-member_ends-loop-more
decreases-member_ends-loop-more l = l.more

abbrev pub invariant-turn_ends-operands : goal.invariant-turn_ends-operands
invariant-turn_ends-operands l = ends_from l.begins (drop l.place l.exprs) (l.gap ∷ l.left) ≡ turn_left (languages (expr_trees l.exprs))
    (lefts (expr_trees l.exprs)) (spread (length (languages (expr_trees l.exprs))) l.rest) []

abbrev pub decreases-turn_ends-operands : goal.decreases-turn_ends-operands
decreases-turn_ends-operands l = length l.exprs - l.place
