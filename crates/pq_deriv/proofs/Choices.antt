-- Elements and lengths of lists whose elements are picked from others.
use Rattle.std.proofs.Common.{◌≡◌, ◌*◌, ◌^◌, inl, inr, List, [], ◌∷◌, ◌++◌, length, map, arith, refl, sym, ap, subst}
use Rattle.std.specs.List.{flat_map}
use Rattle.std.proofs.lemmas.List.{length-map, length-append}
use Rattle.std.proofs.Math.Nat.{zero-mul, suc-mul, pow-succ'}
use Rattle.pq_deriv.specs.Choices.{IsOneOf, sublists}

-- one of the changed elements
pub one_changed : {A B : Type 0} (f : A → B) (xs : List A) (x : A) → IsOneOf xs x → IsOneOf (map f xs) (f x)
one_changed f [] x one = absurd one
one_changed f (y ∷ xs) x (inl is) = inl (ap f is)
one_changed f (y ∷ xs) x (inr one) = inr (one_changed f xs x one)

-- one of the elements of two lists
pub one_before : {X : Type 0} (xs ys : List X) (x : X) → IsOneOf xs x → IsOneOf (xs ++ ys) x
one_before [] ys x one = absurd one
one_before (y ∷ xs) ys x (inl is) = inl is
one_before (y ∷ xs) ys x (inr one) = inr (one_before xs ys x one)

pub one_behind : {X : Type 0} (xs ys : List X) (x : X) → IsOneOf ys x → IsOneOf (xs ++ ys) x
one_behind [] ys x one = one
one_behind (y ∷ xs) ys x one = inr (one_behind xs ys x one)

-- one of the choices
pub one_chosen : {X : Type 0} (xs : List X) (cs : List (List X)) (x : X) (c : List X) → IsOneOf xs x → IsOneOf cs c
    → IsOneOf (flat_map (λ x. map (λ c. x ∷ c) cs) xs) (x ∷ c)
one_chosen [] cs x c one other = absurd one
one_chosen {X} (y ∷ xs) cs x c (inl is) other =
    one_before (map (λ c. y ∷ c) cs) (flat_map (λ x. map (λ c. x ∷ c) cs) xs) (x ∷ c)
    (subst (λ (z : X). IsOneOf (map (λ c. y ∷ c) cs) (z ∷ c)) is (one_changed (λ c. y ∷ c) cs c other))
one_chosen (y ∷ xs) cs x c (inr one) other = one_behind (map (λ c. y ∷ c) cs) (flat_map (λ x. map (λ c. x ∷ c) cs) xs) (x ∷ c) (one_chosen xs cs x c one other)

-- how many choices there are
pub count_chosen : {X : Type 0} (cs : List (List X)) (xs : List X) → length (flat_map (λ x. map (λ c. x ∷ c) cs) xs) ≡ length xs * length cs
count_chosen cs [] = sym (zero-mul (length cs))
count_chosen {X} cs (x ∷ xs) =
    let first = length-append (map (λ (c : List X). x ∷ c) cs) (flat_map (λ x. map (λ c. x ∷ c) cs) xs) in
    let same = length-map cs (λ (c : List X). x ∷ c) in
    let rest = count_chosen cs xs in
    omega (arith, first, same, rest, suc-mul (length xs) (length cs))

-- how many lists leave out some of the elements
pub count_sublists : {X : Type 0} (xs : List X) → length (sublists xs) ≡ 2 ^ length xs
count_sublists [] = refl
count_sublists {X} (x ∷ xs) =
    let first = length-append (map (λ (s : List X). x ∷ s) (sublists xs)) (sublists xs) in
    let same = length-map (sublists xs) (λ (s : List X). x ∷ s) in
    omega (arith, first, same, count_sublists xs, pow-succ' 2 (length xs))
