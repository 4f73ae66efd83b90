-- Membership in a list by recursion, and as clauses say it.
use Rattle.std.proofs.Common.{◌≡◌, ◌⊎◌, List, [], ◌∷◌, sym, subst, inl, inr, arith}
use Rattle.std.specs.List.{Contains}
use Rattle.std.proofs.lemmas.List.Elements.{Contains-append_left, Contains-append_right, Contains-append_cases, Contains-push, Contains-push_cases}

-- y is in the list
abbrev pub IsIn : {X : Type 0} → X → List X → Type 0
IsIn y [] = ⊥
IsIn y (x ∷ xs) = (y ≡ x) ⊎ IsIn y xs

pub contained : {X : Type 0} (xs : List X) (y : X) → IsIn y xs → Contains xs y
contained [] y here = absurd here
contained (x ∷ xs) y (inl same) = subst (Contains (x ∷ xs)) (sym same) (Contains-append_left (x ∷ []) xs x (Contains-push [] x))
contained (x ∷ xs) y (inr later) = Contains-append_right (x ∷ []) xs y (contained xs y later)

-- nothing is in the empty list
pub none_in : {X : Type 0} (y : X) → Contains [] y → ⊥
none_in y (k, below, is) = omega (arith, below)

-- what is in a list of one
one_in : {X : Type 0} (x y : X) → Contains (x ∷ []) y → y ≡ x
one_in x y has = elim (Contains-push_cases [] x y has) [ inl none ↦ absurd (none_in y none) | inr same ↦ sym same ]

pub is_in : {X : Type 0} (xs : List X) (y : X) → Contains xs y → IsIn y xs
is_in [] y has = none_in y has
is_in (x ∷ xs) y has = elim (Contains-append_cases (x ∷ []) xs y has) [ inl first ↦ inl (one_in x y first) | inr later ↦ inr (is_in xs y later) ]
