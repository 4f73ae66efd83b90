-- A list with an item replaced, and its halves.
use Rattle.std.proofs.Common.{ℕ, zero, suc, ◌+◌, ◌<◌, ◌≤◌, ◌≡◌, List, [], ◌∷◌, take, drop, length, refl, sym, ap, arith}
use Rattle.pq_sum.specs.Sum.{replaced}

module _ {X : Type 0} where
  pub take_none : (n : ℕ) → take {A = X} n [] ≡ []
  take_none zero = refl
  take_none (suc n) = refl

  pub drop_none : (n : ℕ) → drop {A = X} n [] ≡ []
  drop_none zero = refl
  drop_none (suc n) = refl

  -- the half with the item has it replaced
  pub take_before : (w i : ℕ) (new xs : List X) → i < w → length new ≤ 1 → i ≤ length xs → (new ≡ [] → length xs ≡ suc i)
      → take w (replaced i new xs) ≡ replaced i new (take w xs)
  take_before zero i new xs before few within last = absurd (omega arith)
  take_before (suc w) zero [] [] before few within last = refl
  take_before (suc w) zero (y ∷ []) [] before few within last = ap (λ l. y ∷ l) (take_none w)
  take_before (suc w) zero (y ∷ z ∷ new) xs before few within last = absurd (omega arith)
  take_before (suc w) zero [] (x ∷ []) before few within last = sym (take_none w)
  take_before (suc w) zero [] (x ∷ y ∷ xs) before few within last = let is = last refl in absurd (omega (arith, is))
  take_before (suc w) zero (y ∷ []) (x ∷ xs) before few within last = refl
  take_before (suc w) (suc i) new [] before few within last = absurd (omega arith)
  take_before (suc w) (suc i) new (x ∷ xs) before few within last =
      ap (λ l. x ∷ l) (take_before w i new xs (omega arith) few (omega arith) (λ none. let is = last none in omega (arith, is)))

  -- and the half after it stays
  pub drop_before : (w i : ℕ) (new xs : List X) → i < w → length new ≤ 1 → i ≤ length xs → (new ≡ [] → length xs ≡ suc i)
      → drop w (replaced i new xs) ≡ drop w xs
  drop_before zero i new xs before few within last = absurd (omega arith)
  drop_before (suc w) zero [] [] before few within last = refl
  drop_before (suc w) zero (y ∷ []) [] before few within last = drop_none w
  drop_before (suc w) zero (y ∷ z ∷ new) xs before few within last = absurd (omega arith)
  drop_before (suc w) zero [] (x ∷ []) before few within last = sym (drop_none w)
  drop_before (suc w) zero [] (x ∷ y ∷ xs) before few within last = let is = last refl in absurd (omega (arith, is))
  drop_before (suc w) zero (y ∷ []) (x ∷ xs) before few within last = refl
  drop_before (suc w) (suc i) new [] before few within last = absurd (omega arith)
  drop_before (suc w) (suc i) new (x ∷ xs) before few within last =
      drop_before w i new xs (omega arith) few (omega arith) (λ none. let is = last none in omega (arith, is))

  -- the half before the item stays
  pub take_behind : (w i : ℕ) (new xs : List X) → w ≤ i → i ≤ length xs → take w (replaced i new xs) ≡ take w xs
  take_behind zero i new xs behind within = refl
  take_behind (suc w) zero new xs behind within = absurd (omega arith)
  take_behind (suc w) (suc i) new [] behind within = absurd (omega arith)
  take_behind (suc w) (suc i) new (x ∷ xs) behind within = ap (λ l. x ∷ l) (take_behind w i new xs (omega arith) (omega arith))

  -- and the half with it has it replaced
  pub drop_behind : (w i d : ℕ) (new xs : List X) → i ≡ w + d → i ≤ length xs → drop w (replaced i new xs) ≡ replaced d new (drop w xs)
  drop_behind zero i d new xs is within = let same : i ≡ d = omega (arith, is) in ap (λ j. replaced j new xs) same
  drop_behind (suc w) zero d new xs is within = absurd (omega (arith, is))
  drop_behind (suc w) (suc i) d new [] is within = absurd (omega arith)
  drop_behind (suc w) (suc i) d new (x ∷ xs) is within = drop_behind w i d new xs (omega (arith, is)) (omega arith)
