-- Lists whose elements are picked from others.
use Rattle.std.specs.Prelude.{◌≡◌, ◌⊎◌, List, [], ◌∷◌, ◌++◌, map}
use Rattle.std.specs.List.{flat_map}

-- x is one of the elements
abbrev pub IsOneOf : {X : Type 0} → List X → X → Type 0
IsOneOf [] x = ⊥
IsOneOf (y ∷ ys) x = (y ≡ x) ⊎ IsOneOf ys x

-- all lists with one element of each list
abbrev pub choices : {X : Type 0} → List (List X) → List (List X)
choices [] = [] ∷ []
choices (xs ∷ rest) = flat_map (λ x. map (λ c. x ∷ c) (choices rest)) xs

-- all lists that have some of the elements, in their order
abbrev pub sublists : {X : Type 0} → List X → List (List X)
sublists [] = [] ∷ []
sublists (x ∷ xs) = map (λ s. x ∷ s) (sublists xs) ++ sublists xs
