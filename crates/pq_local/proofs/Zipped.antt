-- Lists that are related place by place.
use Rattle.std.proofs.Common.{◌≡◌, ◌<◌, ◌+◌, ◌∙◌, ℕ, zero, suc, List, [], ◌∷◌, ◌++◌, Some, length, map, take, get_or, sym, ap, subst}
use Rattle.std.specs.Prelude.{All, slice_get}
use Rattle.std.specs.List.{AllZip}
use Rattle.std.proofs.lemmas.List.{map-append, take_more}
use Rattle.std.proofs.lemmas.Option.{get_or_from_slice_get, same_Some, slice_get-get_or, slice_get_within}
use Rattle.std.proofs.lemmas.Slice.Zip.{all_zipped_more}

module _ {A B : Type 0} where
  -- those at one place are related
  pub zip_at : (P : A → B → Type 0) (xs : List A) (ys : List B) → AllZip P xs ys → (k : ℕ) (x : A) (y : B) → slice_get xs k ≡ Some x
      → slice_get ys k ≡ Some y → P x y
  zip_at P [] [] all k x y left right = absurd (none left)
    where
      none : slice_get {X = A} [] k ≡ Some x → ⊥
      none e = cc
  zip_at P [] (z ∷ ys) all k x y left right = absurd all
  zip_at P (w ∷ xs) [] all k x y left right = absurd all
  zip_at P (w ∷ xs) (z ∷ ys) all zero x y left right = subst (P x) (same_Some z y right) (subst (λ v. P v z) (same_Some w x left) all.0)
  zip_at P (w ∷ xs) (z ∷ ys) all (suc k) x y left right = zip_at P xs ys all.1 k x y left right

  -- one more place
  pub zip_more : {V : Type 0} (P : A → B → Type 0) (items : V → B) (xs : List A) (k : ℕ) (x : A) (vs pushed : List V) (v : V)
      → slice_get xs k ≡ Some x → pushed ≡ vs ++ v ∷ []
      → P x (items v) → AllZip P (take k xs) (map items vs) → AllZip P (take (k + 1) xs) (map items pushed)
  zip_more P items xs k x vs pushed v there push one all =
      let front : take (k + 1) xs ≡ take k xs ++ x ∷ [] =
      take_more xs k x (slice_get_within xs k x there) ∙ ap (λ j. take k xs ++ j ∷ []) (get_or_from_slice_get xs k x x there) in
      let back : map items pushed ≡ map items vs ++ items v ∷ [] = ap (map items) push ∙ map-append items vs (v ∷ []) in
      subst (λ us. AllZip P us (map items pushed)) (sym front) (subst (λ ms. AllZip P (take k xs ++ x ∷ []) ms) (sym back)
      (all_zipped_more P (take k xs) (map items vs) x (items v) all one))

-- what is at a place
pub there_is : {A : Type 0} (xs : List A) (k : ℕ) (x : A) → k < length xs → x ≡ get_or xs k x → slice_get xs k ≡ Some x
there_is xs k x within at = slice_get-get_or xs k x within ∙ ap Some (sym at)

pub one_there : {A : Type 0} (xs : List A) (k : ℕ) (x y : A) → k < length xs → x ≡ get_or xs k x → slice_get xs k ≡ Some y → x ≡ y
one_there xs k x y within at there = same_Some x y (sym (there_is xs k x within at) ∙ there)

-- the same of a list that is the same
pub there_of : {A : Type 0} (xs ys : List A) → ys ≡ xs → (k : ℕ) (x : A) → k < length xs → x ≡ get_or ys k x → slice_get xs k ≡ Some x
there_of xs ys same k x within at = there_is xs k x within (at ∙ ap (λ zs. get_or zs k x) same)

pub one_of : {A : Type 0} (xs ys : List A) → ys ≡ xs → (k : ℕ) (x y : A) → k < length xs → x ≡ get_or ys k x → slice_get xs k ≡ Some y → x ≡ y
one_of xs ys same k x y within at there = one_there xs k x y within (at ∙ ap (λ zs. get_or zs k x) same) there

-- what holds of all holds of one
pub all_there : {A : Type 0} (P : A → Type 0) (xs : List A) → All P xs → (k : ℕ) (x : A) → slice_get xs k ≡ Some x → P x
all_there P xs all k x there = subst P (get_or_from_slice_get xs k x x there) (all k x (slice_get_within xs k x there))
