-- Numbers that are rests: in parts, and with sets.
use Rattle.std.proofs.Common.{◌≡◌, ◌==◌, true, false, rules, ℕ, zero, suc, ◌<◌, ◌≤◌, ◌+◌, ◌-◌, inl, inr, List, [], ◌∷◌, ◌++◌, length, map}
use Rattle.std.proofs.Common.{drop, get_or, arith, refl, subst}
use Rattle.std.proofs.lemmas.List.{append-nil, drop-drop, length-drop}
use Rattle.std.specs.List.Sorted.{IsStrictlySortedBy}
use Rattle.pq_expr.specs.declared.expr.Expr.{Expr}
use Rattle.pq_expr.specs.Expr.{InTurn, Repeated, expr_tree, expr_trees}
use Rattle.pq_deriv.specs.Parts.{spelled, packed, set_before, wide}
use Rattle.pq_deriv.specs.Choices.{IsOneOf, choices}
use Rattle.pq_deriv.specs.Rests.{AreMembers, sets, first_rests, in_parts, in_sets, top_rests, rests, all_rests, IsRest}
use Rattle.pq_deriv.proofs.Choices.{one_changed, one_before, one_behind, one_chosen}
use Rattle.pq_deriv.proofs.Rests.{one_set}
use Rattle.pq_deriv.proofs.Spread.{wide_none, wide_wide, widened_wide}

-- one of the changed elements comes from an element
from_changed : {A B : Type 0} (f : A → B) (xs : List A) (y : B) → IsOneOf (map f xs) y → (x : A) × IsOneOf xs x × (f x ≡ y)
from_changed f [] y one = absurd one
from_changed f (x ∷ xs) y (inl is) = (x, inl refl, is)
from_changed f (x ∷ xs) y (inr one) = let later = from_changed f xs y one in (later.0, inr later.1, later.2)

-- no part, and a part more
pub no_part : IsOneOf (in_parts []) []
no_part = inl refl

pub part_more : (U : List (List ℕ)) (Us : List (List (List ℕ))) (r more : List ℕ) → IsOneOf U r → IsOneOf (in_parts Us) more
    → IsOneOf (in_parts (U ∷ Us)) ((length r ∷ r) ++ more)
part_more U Us r more one others =
    let c = from_changed spelled (choices Us) more others in
    subst (λ (z : List ℕ). IsOneOf (in_parts (U ∷ Us)) ((length r ∷ r) ++ z)) c.2
    (one_changed spelled (choices (U ∷ Us)) (r ∷ c.0) (one_chosen U (choices Us) r c.0 one c.1))

-- sets without members, and with one
pub no_members : (U : List (List ℕ)) → AreMembers U []
unfolding IsStrictlySortedBy
no_members U = (tt, tt)

one_member : (U : List (List ℕ)) (r : List ℕ) → IsOneOf U r → AreMembers U (r ∷ [])
unfolding IsStrictlySortedBy
one_member U r one = ((tt, tt), (one, tt))

-- no set, and a set more
pub no_set : IsOneOf (in_sets []) []
no_set = inl refl

pub set_more : (U : List (List ℕ)) (Us : List (List (List ℕ))) (r more : List ℕ) → IsOneOf U r → IsOneOf (in_sets Us) more
    → IsOneOf (in_sets (U ∷ Us)) (set_before r more)
set_more U Us r more one others =
    let c = from_changed packed (choices Us) more others in
    subst (λ (z : List ℕ). IsOneOf (in_sets (U ∷ Us)) (set_before r z)) c.2
    (one_changed packed (choices (U ∷ Us)) (r ∷ c.0) (one_chosen U (choices Us) r c.0 one c.1))

none_have : (Us : List (List (List ℕ))) → IsOneOf (in_sets (map sets Us)) []
none_have [] = no_set
none_have (U ∷ Us) = set_more (sets U) (map sets Us) [] [] (one_set U [] (no_members U)) (none_have Us)

-- operands whose sets are empty
pub sets_before : (k : ℕ) (es : List Expr) (more : List ℕ) → k ≤ length es
    → IsOneOf (in_sets (map sets (rests (expr_trees (drop k es))))) more
    → IsOneOf (in_sets (map sets (rests (expr_trees es)))) (wide k more)
sets_before zero es more few one = rw (wide_none more) one
sets_before (suc k) [] more few one = absurd (omega (arith, few))
sets_before (suc k) (e ∷ es) more few one =
    let U = all_rests (expr_tree e) in
    subst (IsOneOf (in_sets (map sets (rests (expr_trees (e ∷ es)))))) (widened_wide k more)
    (set_more (sets U) (map sets (rests (expr_trees es))) [] (wide k more) (one_set U [] (no_members U)) (sets_before k es more (omega (arith, few)) one))

pub idle_before : (i k empties : ℕ) (out : List ℕ) (es : List Expr) (W : List ℕ → Type 0) → k ≤ length es - i
    → ((more : List ℕ) → IsOneOf (in_sets (map sets (rests (expr_trees (drop i es))))) more → W (out ++ wide empties more))
    → (more : List ℕ) → IsOneOf (in_sets (map sets (rests (expr_trees (drop (i + k) es))))) more → W (out ++ wide (empties + k) more)
idle_before i k empties out es W few before more one =
    let here : IsOneOf (in_sets (map sets (rests (expr_trees (drop k (drop i es)))))) more = rw (drop-drop k i es) one in
    subst (λ r. W (out ++ r)) (wide_wide empties k more) (before (wide k more) (sets_before k (drop i es) more (omega (arith, few, length-drop i es)) here))

-- operands of which the first is begun
pub turn_shaped : (es : List Expr) (e : Expr) (r : List ℕ) → 0 < length es → e ≡ get_or es 0 e → IsRest (expr_tree e) r
    → IsOneOf (top_rests InTurn (rests (expr_trees es))) (0 ∷ length (1 ∷ length r ∷ r) ∷ 1 ∷ length r ∷ r)
turn_shaped [] e r some is one = absurd (omega (arith, some))
turn_shaped (x ∷ es) e r some is one =
    let first : IsRest (expr_tree x) r = subst (λ (y : Expr). IsRest (expr_tree y) r) is one in
    let set : IsOneOf (sets (all_rests (expr_tree x))) (1 ∷ length r ∷ r) =
    subst (λ (z : List ℕ). IsOneOf (sets (all_rests (expr_tree x))) (1 ∷ length r ∷ z)) (append-nil r)
    (one_set (all_rests (expr_tree x)) (r ∷ []) (one_member (all_rests (expr_tree x)) r first)) in
    subst (λ (z : List ℕ). IsOneOf (top_rests InTurn (rests (expr_trees (x ∷ es)))) (0 ∷ length (1 ∷ length r ∷ r) ∷ z)) (append-nil (1 ∷ length r ∷ r))
    (set_more (sets (all_rests (expr_tree x))) (map sets (rests (expr_trees es))) (1 ∷ length r ∷ r) [] set (none_have (rests (expr_trees es))))

-- operands in turn: none, or some
pub turn_none : (es : List Expr) → (length es == 0) ≡ true → IsOneOf (top_rests InTurn (rests (expr_trees es))) (0 ∷ [])
turn_none [] none = inl refl
turn_none (e ∷ es) none = absurd (search (none, rules))

pub turn_some : (es : List Expr) → (length es == 0) ≡ false → top_rests InTurn (rests (expr_trees es)) ≡ in_sets (map sets (rests (expr_trees es)))
turn_some [] some = absurd (search (some, rules))
turn_some (e ∷ es) some = refl

-- the rests of a repetition
pub repeated_begun : (Us : List (List (List ℕ))) (r : List ℕ) → IsOneOf (sets (first_rests Us)) r → IsOneOf (top_rests Repeated Us) (0 ∷ r)
repeated_begun Us r one =
    one_before (map (λ (set : List ℕ). 0 ∷ set) (sets (first_rests Us))) (map (λ (set : List ℕ). 1 ∷ set) (sets (first_rests Us))) (0 ∷ r)
    (one_changed (λ (set : List ℕ). 0 ∷ set) (sets (first_rests Us)) r one)

pub repeated_fresh : (Us : List (List (List ℕ))) → IsOneOf (top_rests Repeated Us) (1 ∷ [])
repeated_fresh Us =
    one_behind (map (λ (set : List ℕ). 0 ∷ set) (sets (first_rests Us))) (map (λ (set : List ℕ). 1 ∷ set) (sets (first_rests Us))) (1 ∷ [])
    (one_changed (λ (set : List ℕ). 1 ∷ set) (sets (first_rests Us)) [] (one_set (first_rests Us) [] (no_members (first_rests Us))))

pub repeated_over : (Us : List (List (List ℕ))) → IsOneOf (top_rests Repeated Us) (0 ∷ [])
repeated_over Us = repeated_begun Us [] (one_set (first_rests Us) [] (no_members (first_rests Us)))
