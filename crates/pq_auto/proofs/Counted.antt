-- Lists of which no two are equal, all of them elements of another list: there are no more than it has.
use Rattle.std.proofs.Common.{◌≡◌, ℕ, zero, suc, true, false, ◌≤◌, inl, inr, List, [], ◌∷◌, length, map, Some, Vec, Global, nat_eq, refl, sym, subst, rules}
use Rattle.std.specs.List.{slice_get, AllByRecursion, IsDistinct, list_any}
use Rattle.std.specs.Cmp.Lexicographic.{pointwise, nat_list_eq_equiv, same_text}
use Rattle.std.proofs.lemmas.Bool.{or_cases}
use Rattle.std.proofs.lemmas.Map.Made.{length-le_from_is_member}
use Rattle.pq_deriv.specs.Choices.{IsOneOf}
use Rattle.pq_deriv.proofs.Rests.{finds}
use Rattle.pq_auto.specs.Tables.{lists}
use Rattle.pq_auto.proofs.Keys.{same_list}

-- what is found among lists that are all elements is found among the elements
found : (U rs : List (List ℕ)) (r : List ℕ) → AllByRecursion (IsOneOf U) rs → list_any (pointwise nat_eq r) rs ≡ true → list_any (pointwise nat_eq r) U ≡ true
found U [] r all is = absurd (search (is, rules))
found U (s ∷ rs) r all is = elim (or_cases (pointwise nat_eq r s) (list_any (pointwise nat_eq r) rs) is) [
  | inl same ↦ finds U r (subst (IsOneOf U) (sym (same_text r s (sym same))) all.0)
  | inr later ↦ found U rs r all.1 later
]

pub count_within : (U rs : List (List ℕ)) → IsDistinct (pointwise nat_eq) rs → AllByRecursion (IsOneOf U) rs → length rs ≤ length U
count_within U rs distinct are = length-le_from_is_member nat_list_eq_equiv rs U distinct (λ r is. found U rs r are is)

-- what is true at each place is true of all changed elements
pub all_changed : {A B : Type 0} (P : B → Type 0) (f : A → B) (xs : List A) → ((i : ℕ) (x : A) → slice_get xs i ≡ Some x → P (f x))
    → AllByRecursion P (map f xs)
all_changed P f [] each = tt
all_changed P f (x ∷ xs) each = (each 0 x refl, all_changed P f xs (λ i y at. each (suc i) y at))

-- what is true of all elements is true at each place
pub one_of_all : {X : Type 0} (P : X → Type 0) (xs : List X) → AllByRecursion P xs → (i : ℕ) (x : X) → slice_get xs i ≡ Some x → P x
one_of_all P [] all i x at = absurd cc
one_of_all P (y ∷ xs) all zero x at = let same : y ≡ x = cc in subst P same all.0
one_of_all P (y ∷ xs) all (suc i) x at = one_of_all P xs all.1 i x at

-- stored lists of which no two are equal
pub distinct_lists : (keys : List (Vec ℕ Global)) → IsDistinct same_list keys → IsDistinct (pointwise nat_eq) (lists keys)
unfolding IsDistinct
distinct_lists [] distinct = tt
distinct_lists (x ∷ keys) distinct = (
  all_changed (λ ys. pointwise nat_eq x.items ys ≡ false) (λ (v : Vec ℕ Global). v.items) keys
      (one_of_all (λ y. same_list x y ≡ false) keys distinct.0),
  distinct_lists keys distinct.1,
)
