-- One item of a list, put in place of another, or taken out.
use Rattle.std.proofs.Common.{ℕ, zero, suc, ◌-◌, ◌<◌, ◌≤◌, ◌≡◌, ◌≢◌, ◌∙◌, List, [], ◌∷◌, ◌++◌, take, drop, length, refl, sym, ap, subst, Some, arith}
use Rattle.std.specs.Prelude.{slice_get}
use Rattle.std.proofs.lemmas.List.{length-take}
use Rattle.std.proofs.lemmas.Option.{same_Some}
use Rattle.pq_sum.specs.Cells.{at_place, removed}
use Rattle.pq_sum.specs.Sum.{replaced}

module _ {X : Type 0} where
  -- the item at a place alone
  pub item_at : (xs : List X) (i : ℕ) (x : X) → slice_get xs i ≡ Some x → at_place i xs ≡ x ∷ []
  item_at [] i x is = absurd cc
  item_at (y ∷ xs) zero x is = ap (λ z. z ∷ []) (same_Some y x is)
  item_at (y ∷ xs) (suc i) x is = item_at xs i x is

  -- the item in place of another
  pub put_here : (xs : List X) (i : ℕ) (x : X) → i ≤ length xs → slice_get (replaced i (x ∷ []) xs) i ≡ Some x
  put_here xs zero x within = refl
  put_here [] (suc i) x within = absurd (omega arith)
  put_here (y ∷ xs) (suc i) x within = put_here xs i x (omega arith)

  -- and the others
  pub put_elsewhere : (xs : List X) (i s : ℕ) (x y : X) → s ≢ i → slice_get xs s ≡ Some y → slice_get (replaced i (x ∷ []) xs) s ≡ Some y
  put_elsewhere [] i s x y other is = absurd cc
  put_elsewhere (z ∷ xs) zero zero x y other is = absurd (other refl)
  put_elsewhere (z ∷ xs) zero (suc s) x y other is = is
  put_elsewhere (z ∷ xs) (suc i) zero x y other is = is
  put_elsewhere (z ∷ xs) (suc i) (suc s) x y other is = put_elsewhere xs i s x y (λ same. other (ap (λ n. suc n) same)) is

  -- an item of a front
  taken_item : (xs : List X) (n s : ℕ) (y : X) → s < n → slice_get xs s ≡ Some y → slice_get (take n xs) s ≡ Some y
  taken_item [] n s y within is = absurd cc
  taken_item (x ∷ xs) zero s y within is = absurd (omega arith)
  taken_item (x ∷ xs) (suc n) zero y within is = is
  taken_item (x ∷ xs) (suc n) (suc s) y within is = taken_item xs n s y (omega arith) is

  -- the last item
  last_item : (xs : List X) (last : ℕ) → length xs ≡ suc last → (y : X) × (slice_get xs last ≡ Some y) × (drop last xs ≡ y ∷ [])
  last_item [] last all = absurd (omega (arith, all))
  last_item (x ∷ []) zero all = (x, refl, refl)
  last_item (x ∷ y ∷ xs) zero all = absurd (omega (arith, all))
  last_item (x ∷ xs) (suc last) all = last_item xs last (omega (arith, all))

  -- how many there are with an item in place of another, or after the last
  pub put_length : (xs : List X) (i : ℕ) (x : X) → i < length xs → length (replaced i (x ∷ []) xs) ≡ length xs
  put_length [] i x within = absurd (omega arith)
  put_length (y ∷ xs) zero x within = refl
  put_length (y ∷ xs) (suc i) x within = ap (λ n. suc n) (put_length xs i x (omega arith))

  pub put_last : (xs : List X) (i : ℕ) (x : X) → length xs ≡ i → replaced i (x ∷ []) xs ≡ xs ++ x ∷ []
  put_last [] zero x all = refl
  put_last [] (suc i) x all = absurd (omega (arith, all))
  put_last (y ∷ xs) zero x all = absurd (omega (arith, all))
  put_last (y ∷ xs) (suc i) x all = ap (λ l. y ∷ l) (put_last xs i x (omega (arith, all)))

  -- and with none there
  pub taken_length : (xs : List X) (i last : ℕ) → length xs ≡ suc last → i ≤ last → length (replaced i [] xs) ≡ last
  taken_length [] i last all within = absurd (omega (arith, all))
  taken_length (y ∷ xs) zero last all within = omega (arith, all)
  taken_length (y ∷ xs) (suc i) zero all within = absurd (omega (arith, within))
  taken_length (y ∷ xs) (suc i) (suc last) all within = ap (λ n. suc n) (taken_length xs i last (omega (arith, all)) (omega (arith, within)))

  module _ (xs : List X) (slot last : ℕ) (all : length xs ≡ suc last) (within : slot ≤ last) where
    -- what is left where the last item moves into a slot
    removed_is : (y : X) → drop last xs ≡ y ∷ [] → removed slot xs ≡ take last (replaced slot (y ∷ []) xs)
    removed_is y at =
        let less : length xs - 1 ≡ last = omega (arith, all) in
        ap (λ n. take n (replaced slot (drop n xs) xs)) less ∙ ap (λ l. take last (replaced slot l xs)) at

    pub removed_length : length (removed slot xs) ≡ last
    removed_length =
        let y = last_item xs last all in
        let is = ap (λ l. length l) (removed_is y.0 y.2) in
        let few = length-take last (replaced slot (y.0 ∷ []) xs) in
        let same = put_length xs slot y.0 (omega (arith, all, within)) in
        omega (arith, is, few, same, all)

    pub removed_here : slot < last → (x : X) → slice_get xs last ≡ Some x → slice_get (removed slot xs) slot ≡ Some x
    removed_here before x is =
        let y = last_item xs last all in
        let same : y.0 ≡ x = same_Some y.0 x (sym y.1 ∙ is) in
        subst (λ l. slice_get l slot ≡ Some x) (sym (removed_is y.0 y.2))
        (taken_item (replaced slot (y.0 ∷ []) xs) last slot x before (put_here xs slot y.0 (omega (arith, all, within)) ∙ ap (λ z. Some z) same))

    pub removed_elsewhere : (s : ℕ) (x : X) → s ≢ slot → s < last → slice_get xs s ≡ Some x → slice_get (removed slot xs) s ≡ Some x
    removed_elsewhere s x other before is =
        let y = last_item xs last all in
        subst (λ l. slice_get l s ≡ Some x) (sym (removed_is y.0 y.2))
        (taken_item (replaced slot (y.0 ∷ []) xs) last s x before (put_elsewhere xs slot s y.0 x other is))
