use Rattle.std.proofs.Common.{◌≡◌, ◌≤◌, ℕ, List, ◌∷◌, ◌||◌, ◌++◌, ◌-◌, false, length, map, drop}
use Rattle.pq_expr.specs.Word.{Word}
use Rattle.pq_expr.specs.Expr.{expr_tree, expr_trees}
use Rattle.pq_expr.specs.Language.{Language}
use Rattle.pq_deriv.specs.Parts.{parts, members, wide}
use Rattle.pq_deriv.specs.Left.{left, set_left}
use Rattle.pq_deriv.specs.Stepped.{stepped_left, AreStepped, AreSetsStepped}
use Rattle.pq_deriv.specs.Choices.{IsOneOf}
use Rattle.pq_deriv.specs.Rests.{AreMembers, sets, in_parts, in_sets, rests, all_rests}
use Rattle.pq_deriv.proofs.steps.+steps.Given as goal

abbrev pub invariant-step_each-loop-expr : goal.invariant-step_each-loop-expr
invariant-step_each-loop-expr l =
    ((more : List ℕ) → AreStepped (record { side = l.side; truth = l.signature }) (expr_trees (drop l.expr-index l.exprs)) l.left more
    → AreStepped (record { side = l.side; truth = l.signature }) (expr_trees l.exprs) l.rest (l.out.items ++ more))
    × ((more : List ℕ) → IsOneOf (in_parts (rests (expr_trees (drop l.expr-index l.exprs)))) more
    → IsOneOf (in_parts (rests (expr_trees l.exprs))) (l.out.items ++ more))

abbrev pub invariant-step_sets-operands : goal.invariant-step_sets-operands
invariant-step_sets-operands l =
    ((more : List ℕ) → AreSetsStepped (record { side = l.side; truth = l.signature }) (expr_trees (drop l.place l.exprs)) l.begins (l.gap ∷ l.left) more
    → AreSetsStepped (record { side = l.side; truth = l.signature }) (expr_trees l.exprs) false l.rest (l.out.items ++ wide l.empties more))
    × ((more : List ℕ) → IsOneOf (in_sets (map sets (rests (expr_trees (drop l.place l.exprs))))) more
    → IsOneOf (in_sets (map sets (rests (expr_trees l.exprs)))) (l.out.items ++ wide l.empties more))
    × (l.empties ≤ l.place)

abbrev pub decreases-step_sets-operands : goal.decreases-step_sets-operands
decreases-step_sets-operands l = length l.exprs - l.place

abbrev pub invariant-step_members-loop-more : goal.invariant-step_members-loop-more
invariant-step_members-loop-more l =
    ((P : Language) (w : Word)
    → (set_left (left (expr_tree l.expr)) P (map (λ r. r.items) l.stepped.items) w || stepped_left
    (record { side = l.side; truth = l.signature }) (left (expr_tree l.expr)) P (parts l.more l.left) w)
    ≡ stepped_left (record { side = l.side; truth = l.signature }) (left (expr_tree l.expr)) P (members l.set) w)
    × AreMembers (all_rests (expr_tree l.expr)) (map (λ r. r.items) l.stepped.items)

abbrev pub decreases-step_members-loop-more : goal.decreases-step_members-loop-more
decreases-step_members-loop-more l = l.more
