-- What is at the places of lists.
use Rattle.std.proofs.Common.{◌≡◌, ℕ, zero, suc, ◌+◌, ◌<◌, ◌∙◌, List, [], ◌∷◌, ◌++◌, Some, length, map, drop, get_or, inl, inr, refl, sym, ap, arith}
use Rattle.std.specs.Prelude.{◌⊎◌, slice_get}
use Rattle.std.proofs.lemmas.Option.{same_Some}

module _ {X : Type 0} where
  -- elements keep their places where a list grows at its end
  pub kept_places : (xs ys : List X) (k : ℕ) (x : X) → slice_get xs k ≡ Some x → slice_get (xs ++ ys) k ≡ Some x
  kept_places [] ys k x h = absurd cc
  kept_places (a ∷ xs) ys zero x h = h
  kept_places (a ∷ xs) ys (suc k) x h = kept_places xs ys k x h

  -- a place has one element
  pub one_at : (xs : List X) (k : ℕ) (x y : X) → slice_get xs k ≡ Some x → slice_get xs k ≡ Some y → x ≡ y
  one_at xs k x y is at = same_Some x y (sym is ∙ at)

  -- a new element is at the end
  pub last_place : (xs : List X) (y : X) → slice_get (xs ++ y ∷ []) (length xs) ≡ Some y
  last_place [] y = refl
  last_place (a ∷ xs) y = last_place xs y

  -- an element of a list that has grown by one was there, or is the new one
  pub older_or_last : (xs : List X) (y : X) (k : ℕ) (x : X) → slice_get (xs ++ y ∷ []) k ≡ Some x → (slice_get xs k ≡ Some x) ⊎ ((k ≡ length xs) × (x ≡ y))
  older_or_last [] y zero x h = inr (refl, cc)
  older_or_last [] y (suc k) x h = absurd cc
  older_or_last (a ∷ xs) y zero x h = inl h
  older_or_last (a ∷ xs) y (suc k) x h = elim (older_or_last xs y k x h) [ inl e ↦ inl e | inr e ↦ inr (ap suc e.0, e.1) ]

  -- each place within a list has an element
  pub at_place : (xs : List X) (k : ℕ) → k < length xs → (x : X) × (slice_get xs k ≡ Some x)
  at_place [] k h = absurd (omega arith)
  at_place (a ∷ xs) zero h = (a, refl)
  at_place (a ∷ xs) (suc k) h = at_place xs k (omega arith)

  -- the list from a place on
  pub from_place : (xs : List X) (i : ℕ) (x : X) → i < length xs → x ≡ get_or xs i x → drop i xs ≡ x ∷ drop (i + 1) xs
  from_place [] i x less is = absurd (omega (arith, less))
  from_place (y ∷ ys) zero x less is = ap (λ z. z ∷ ys) (sym is)
  from_place (y ∷ ys) (suc i) x less is =
      let next : suc i + 1 ≡ suc (i + 1) = omega arith in
      from_place ys i x (omega (arith, less)) is ∙ ap (λ k. x ∷ drop k (y ∷ ys)) (sym next)

-- the image of an element is at its place among the images
pub image_place : {A B : Type 0} (f : A → B) (xs : List A) (k : ℕ) (x : A) → slice_get xs k ≡ Some x → slice_get (map f xs) k ≡ Some (f x)
image_place {A} f [] k x there = absurd (none there)
  where
    none : slice_get {X = A} [] k ≡ Some x → ⊥
    none e = cc
image_place f (y ∷ ys) zero x there = ap (λ z. Some (f z)) (same_Some y x there)
image_place f (y ∷ ys) (suc k) x there = image_place f ys k x there
