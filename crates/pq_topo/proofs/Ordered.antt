-- Lists in the order of their keys.
use Rattle.std.specs.Prelude.{◌≡◌, ℕ, Bool, true, false, if◌then◌else◌, List, [], ◌∷◌, map, bytes_eq}
use Rattle.std.proofs.Common.{arith, refl, IsPermutation}
use Rattle.std.specs.List.{AllByRecursion, IsDistinct}
use Rattle.std.proofs.lemmas.Bool.Decides.{nat_tests}
use Rattle.std.proofs.lemmas.List.Sorted.{IsPermutation-refl, IsPermutation-cons, IsPermutation-trans, IsPermutation-swap}
use Rattle.pq_fields.specs.Packet.{is_before}
use Rattle.pq_model.specs.Sorting.{put_by, sort_by}
use Rattle.pq_model.specs.Lawful.{Ascends}
use Rattle.pq_model.specs.Install.{AscendsBy}
use Rattle.pq_model.proofs.Ascending.{rest_ascends}
use Rattle.pq_model.proofs.Sorted.{sort-all}

-- of two different lists of numbers one is before the other
pub one_is_before : (ks ls : List ℕ) → is_before ks ls ≡ false → bytes_eq ls ks ≡ false → is_before ls ks ≡ true
one_is_before [] [] e differ = absurd cc
one_is_before [] (l ∷ ls) e differ = absurd cc
one_is_before (k ∷ ks) [] e differ = refl
one_is_before (k ∷ ks) (l ∷ ls) e differ = grind (arith, nat_tests, one_is_before ks ls)

-- keys that differ ascend as numbers where they ascend as lists of one number
pub ascends_from : {A : Type 0} (f : A → ℕ) (xs : List A) → AscendsBy (λ x. f x ∷ []) xs → Ascends (map f xs)
ascends_from f [] up = tt
ascends_from f (x ∷ []) up = tt
ascends_from f (x ∷ y ∷ zs) up = (grind (arith, nat_tests, up.0), ascends_from f (y ∷ zs) up.1)

module _ {A : Type 0} (key : A → List ℕ) where
  -- the keys of values differ
  abbrev pub same_key : A → A → Bool
  same_key x y = bytes_eq (key x) (key y)

  swapped : (x y : A) (ys : List A) → IsPermutation (x ∷ y ∷ ys) (y ∷ x ∷ ys)
  swapped x y ys = IsPermutation-swap (x ∷ y ∷ ys) (y ∷ x ∷ ys) 0 1 (omega arith) (omega arith) refl

  put_shuffles : (x : A) (ys : List A) → IsPermutation (x ∷ ys) (put_by key x ys)
  put_shuffles x [] = IsPermutation-refl (x ∷ [])
  put_shuffles x (y ∷ ys) = by (is_before (key y) (key x)) (put_shuffles x ys)
    where
      by : (b : Bool) → IsPermutation (x ∷ ys) (put_by key x ys) → IsPermutation (x ∷ y ∷ ys) (if b then y ∷ put_by key x ys else x ∷ y ∷ ys)
      by true more = IsPermutation-trans (x ∷ y ∷ ys) (y ∷ x ∷ ys) (y ∷ put_by key x ys) (swapped x y ys) (IsPermutation-cons y (x ∷ ys) (put_by key x ys) more)
      by false more = IsPermutation-refl (x ∷ y ∷ ys)

  -- a sorted list has the same values
  pub sort_shuffles : (xs : List A) → IsPermutation xs (sort_by key xs)
  sort_shuffles [] = IsPermutation-refl []
  sort_shuffles (x ∷ xs) = IsPermutation-trans (x ∷ xs) (x ∷ sort_by key xs) (put_by key x (sort_by key xs))
      (IsPermutation-cons x xs (sort_by key xs) (sort_shuffles xs)) (put_shuffles x (sort_by key xs))

  above : (y x : A) (zs : List A) → is_before (key y) (key x) ≡ true → AscendsBy key (y ∷ zs) → AscendsBy key (put_by key x zs)
      → AscendsBy key (y ∷ put_by key x zs)
  above y x [] h up rest = (h, tt)
  above y x (z ∷ zs) h up rest = by (is_before (key z) (key x)) rest
    where
      by : (b : Bool) → AscendsBy key (if b then z ∷ put_by key x zs else x ∷ z ∷ zs) → AscendsBy key (y ∷ (if b then z ∷ put_by key x zs else x ∷ z ∷ zs))
      by true rest = (up.0, rest)
      by false rest = (h, rest)

  put_ascends : (x : A) (ys : List A) → AscendsBy key ys → AllByRecursion (λ y. same_key x y ≡ false) ys → AscendsBy key (put_by key x ys)
  put_ascends x [] up apart = tt
  put_ascends x (y ∷ ys) up apart = by (is_before (key y) (key x)) refl (put_ascends x ys (rest_ascends key y ys up) apart.1)
    where
      by : (b : Bool) → is_before (key y) (key x) ≡ b → AscendsBy key (put_by key x ys) → AscendsBy key (if b then y ∷ put_by key x ys else x ∷ y ∷ ys)
      by true e more = above y x ys e up more
      by false e more = (one_is_before (key y) (key x) e apart.0, up)

  -- a sorted list ascends where the keys differ
  pub sort_ascends : (xs : List A) → IsDistinct same_key xs → AscendsBy key (sort_by key xs)
  unfolding IsDistinct
  sort_ascends [] apart = tt
  sort_ascends (x ∷ xs) apart = put_ascends x (sort_by key xs) (sort_ascends xs apart.1) (sort-all key (λ y. same_key x y ≡ false) xs apart.0)
