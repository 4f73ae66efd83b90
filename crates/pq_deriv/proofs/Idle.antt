-- Operands in turn before the empty word, where those that aren't begun, and don't begin, are passed over.
use Rattle.std.proofs.Common.{◌≡◌, ℕ, zero, suc, Bool, true, false, ◌&&◌, ◌||◌, ◌==◌, rules, ◌<◌, ◌≤◌, ◌+◌, ◌-◌, ◌⊎◌, inl, inr, List, []}
use Rattle.std.proofs.Common.{◌∷◌, length, drop, refl, sym, ap, ◌∙◌, arith}
use Rattle.std.proofs.lemmas.List.{drop-drop, length-drop, drop_all}
use Rattle.std.proofs.Math.Bool.{or-false, and-true}
use Rattle.pq_expr.specs.declared.expr.Expr.{Expr}
use Rattle.pq_expr.specs.Expr.{InTurn, expr_trees}
use Rattle.pq_expr.specs.Language.{in_turn, languages}
use Rattle.pq_deriv.specs.Parts.{spread, first_set, behind_set}
use Rattle.pq_deriv.specs.Left.{lefts, turn_left, top_left}
use Rattle.pq_deriv.proofs.Spread.{behind_none, first_idle, spread_gap, some_idle, fewer_idle}

-- whether operands accept the empty word, of which the first begins or not, and whose sets are these
abbrev pub ends_from : Bool → List Expr → List ℕ → Bool
ends_from begins es r = (begins && in_turn (languages (expr_trees es)) []) || turn_left (languages (expr_trees es)) (lefts (expr_trees es))
    (spread (length (languages (expr_trees es))) r) []

-- after an empty set
ends_behind : (es : List Expr) (gap : ℕ) (left : List ℕ) → (0 < gap) ⊎ (length left ≡ 0)
    → ends_from false es (behind_set (gap ∷ left)) ≡ ends_from false es ((gap - 1) ∷ left)
ends_behind es gap left (inl some) = rw (behind_none gap left some) refl
ends_behind es gap (n ∷ left) (inr none) = absurd (omega (arith, none))
ends_behind es zero [] (inr none) = ap (λ sets. turn_left (languages (expr_trees es)) (lefts (expr_trees es)) sets [])
    (sym (spread_gap (length (languages (expr_trees es))) []))
ends_behind es (suc gap) [] (inr none) = let less : suc gap - 1 ≡ gap = omega arith in rw less refl

ends_skipped : (k gap : ℕ) (left : List ℕ) (es : List Expr) → k ≤ length es → (k ≤ gap) ⊎ (length left ≡ 0)
    → ends_from false (drop k es) ((gap - k) ∷ left) ≡ ends_from false es (gap ∷ left)
ends_skipped zero gap left es few idle = let all : gap - 0 ≡ gap = omega arith in rw all refl
ends_skipped (suc k) gap left [] few idle = absurd (omega (arith, few))
ends_skipped (suc k) gap left (e ∷ es) few idle =
    let less : gap - suc k ≡ gap - 1 - k = omega arith in
    let later : ends_from false (drop k es) ((gap - 1 - k) ∷ left) ≡ ends_from false es ((gap - 1) ∷ left) =
    ends_skipped k (gap - 1) left es (omega (arith, few)) (fewer_idle k gap left idle) in
    let none : first_set (gap ∷ left) ≡ [] = first_idle gap left (some_idle k gap left idle) in
    rw (less, none) (later ∙ sym (ends_behind es gap left (some_idle k gap left idle)))

-- operands that are passed over, after others
pub ends_idle : (begins : Bool) (i k gap : ℕ) (left : List ℕ) (es : List Expr) → k ≤ length es - i → (begins ≡ true → k ≡ 0)
    → (k ≤ gap) ⊎ (length left ≡ 0) → ends_from begins (drop (i + k) es) ((gap - k) ∷ left) ≡ ends_from begins (drop i es) (gap ∷ left)
ends_idle false i k gap left es few none idle = rw (← drop-drop k i es) (ends_skipped k gap left (drop i es) (omega (arith, few, length-drop i es)) idle)
ends_idle true i k gap left es few none idle =
    let zero_is : k ≡ 0 = none refl in
    let place : i + 0 ≡ i = omega arith in
    let all : gap - 0 ≡ gap = omega arith in
    rw (zero_is, place, all) refl

-- no operand is left
pub ends_over : (begins : Bool) (i : ℕ) (es : List Expr) (r : List ℕ) → length es ≤ i → ends_from begins (drop i es) r ≡ begins
ends_over begins i es r past = rw (drop_all i es past) (or-false (begins && true) ∙ and-true begins)

-- some operands in turn
pub turn_is : (es : List Expr) (r : List ℕ) → (length es == 0) ≡ false → (b : Bool)
    → b ≡ turn_left (languages (expr_trees es)) (lefts (expr_trees es)) (spread (length (languages (expr_trees es))) r) []
    → b ≡ top_left InTurn (languages (expr_trees es)) (lefts (expr_trees es)) r []
turn_is [] r some b is = absurd (search (some, rules))
turn_is (e ∷ es) r some b is = is
