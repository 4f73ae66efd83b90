-- Places in lists of what is named.
use Rattle.std.proofs.Common.{ℕ, zero, suc, ◌+◌, ◌<◌, ◌≤◌, ◌≡◌, ◌∙◌, List, [], ◌∷◌, ◌++◌, take, drop, length, map, get_or, refl, sym, ap, ap₂, arith}
use Rattle.std.specs.Prelude.{Bool, true, false, bytes_eq, if◌then◌else◌, slice_set}
use Rattle.std.proofs.lemmas.List.{at_drop_more, take-append-drop, take-set, drop-set}
use Rattle.pq_sum.specs.Sum.{replaced}
use Rattle.pq_engine.specs.Places.{place_in}

module _ {A : Type 0} where
  pub set_is : (xs : List A) (i : ℕ) (x : A) → i < length xs → slice_set xs i x ≡ replaced i (x ∷ []) xs
  set_is xs i x within =
      let one : i + 1 ≡ suc i = omega arith in
      sym (take-append-drop i (slice_set xs i x)) ∙ ap₂ (λ front back. front ++ back) (take-set xs i x) (drop-set xs i x within ∙ ap (λ j. x ∷ drop j xs) one)

  -- what is in a place is put back
  pub put_again : (i : ℕ) (new : A) (xs : List A) → i ≤ length xs → replaced i (take 1 (drop i xs)) (replaced i (new ∷ []) xs) ≡ xs
  put_again zero new [] within = refl
  put_again zero new (x ∷ xs) within = refl
  put_again (suc i) new [] within = absurd (omega arith)
  put_again (suc i) new (x ∷ xs) within = ap (λ l. x ∷ l) (put_again i new xs (omega arith))

  -- and so is what is taken out
  pub inserted_again : (i : ℕ) (old : A) (xs : List A) → i < length xs → old ∷ [] ≡ take 1 (drop i xs)
      → take i (replaced i [] xs) ++ (old ∷ drop i (replaced i [] xs)) ≡ xs
  inserted_again zero old [] within is = absurd (omega arith)
  inserted_again zero old (x ∷ xs) within is = ap (λ l. l ++ xs) is
  inserted_again (suc i) old [] within is = absurd (omega arith)
  inserted_again (suc i) old (x ∷ xs) within is = ap (λ l. x ∷ l) (inserted_again i old xs (omega arith) is)

  pub put_long : (i : ℕ) (new : A) (xs : List A) → i ≤ length xs → length xs ≤ length (replaced i (new ∷ []) xs)
  put_long zero new [] within = omega arith
  put_long zero new (x ∷ xs) within = omega arith
  put_long (suc i) new [] within = absurd (omega arith)
  put_long (suc i) new (x ∷ xs) within = let less = put_long i new xs (omega arith) in omega (arith, less)

  pub put_within : (i : ℕ) (new : A) (xs : List A) → i ≤ length xs → i < length (replaced i (new ∷ []) xs)
  put_within zero new [] within = omega arith
  put_within zero new (x ∷ xs) within = omega arith
  put_within (suc i) new [] within = absurd (omega arith)
  put_within (suc i) new (x ∷ xs) within = let less = put_within i new xs (omega arith) in omega (arith, less)

  pub removed_long : (i : ℕ) (xs : List A) → i < length xs → suc (length (replaced i [] xs)) ≡ length xs
  removed_long zero [] within = absurd (omega arith)
  removed_long zero (x ∷ xs) within = refl
  removed_long (suc i) [] within = absurd (omega arith)
  removed_long (suc i) (x ∷ xs) within = ap suc (removed_long i xs (omega arith))

  -- where nothing was in a place, it is the last one
  pub put_last : (i : ℕ) (new : A) (xs : List A) → i ≤ length xs → [] ≡ take 1 (drop i xs) → length (replaced i (new ∷ []) xs) ≡ suc i
  put_last zero new [] within none = refl
  put_last zero new (x ∷ xs) within none = absurd cc
  put_last (suc i) new [] within none = absurd (omega arith)
  put_last (suc i) new (x ∷ xs) within none = ap suc (put_last i new xs (omega arith) none)

  pub put_at_place : (i : ℕ) (new : A) (xs : List A) → i ≤ length xs → take 1 (drop i (replaced i (new ∷ []) xs)) ≡ new ∷ []
  put_at_place zero new [] within = refl
  put_at_place zero new (x ∷ xs) within = refl
  put_at_place (suc i) new [] within = absurd (omega arith)
  put_at_place (suc i) new (x ∷ xs) within = put_at_place i new xs (omega arith)

module _ {A B : Type 0} (f : A → B) where
  pub map_replaced : (i : ℕ) (new xs : List A) → map f (replaced i new xs) ≡ replaced i (map f new) (map f xs)
  map_replaced zero [] [] = refl
  map_replaced zero [] (x ∷ xs) = refl
  map_replaced zero (y ∷ new) xs = ap (λ l. f y ∷ l) (map_replaced zero new xs)
  map_replaced (suc i) [] [] = refl
  map_replaced (suc i) (y ∷ new) [] = ap (λ l. f y ∷ l) (map_replaced (suc i) new [])
  map_replaced (suc i) new (x ∷ xs) = ap (λ l. f x ∷ l) (map_replaced i new xs)

pub place_within : (name : List ℕ) (names : List (List ℕ)) → place_in name names ≤ length names
place_within name [] = omega arith
place_within name (n ∷ ns) = by (bytes_eq n name) (place_within name ns)
  where
    by : (b : Bool) → place_in name ns ≤ length ns → (if b then 0 else suc (place_in name ns)) ≤ length (n ∷ ns)
    by true less = omega arith
    by false less = omega (arith, less)

-- One step through what is named.

module _ {A : Type 0} (name : List ℕ) (xs : List (List ℕ × A)) (i : ℕ) (x : List ℕ × A) (within : i < length xs) (is : x ≡ get_or xs i x)
    (before : place_in name (map (λ n. n.0) xs) ≡ i + place_in name (map (λ n. n.0) (drop i xs))) where
  step : place_in name (map (λ n. n.0) xs) ≡ i + place_in name (map (λ n. n.0) (x ∷ drop (i + 1) xs))
  step =
      before ∙ ap (λ j. i + j) (at_drop_more (λ (ys : List (List ℕ × A)). place_in name (map (λ n. n.0) ys)) xs i x within
      ∙ ap (λ (y : List ℕ × A). place_in name (map (λ n. n.0) (y ∷ drop (i + 1) xs))) (sym is))

  -- the item has the name
  pub place_here : bytes_eq x.0 name ≡ true → i ≡ place_in name (map (λ n. n.0) xs)
  place_here has =
      let rest = place_in name (map (λ n. n.0) (drop (i + 1) xs)) in
      let first : (if bytes_eq x.0 name then 0 else suc rest) ≡ 0 = ap (λ b. if b then 0 else suc rest) has in
      omega (arith, step, first)

  -- it has another
  pub place_after : bytes_eq x.0 name ≡ false → place_in name (map (λ n. n.0) xs) ≡ i + 1 + place_in name (map (λ n. n.0) (drop (i + 1) xs))
  place_after other =
      let rest = place_in name (map (λ n. n.0) (drop (i + 1) xs)) in
      let first : (if bytes_eq x.0 name then 0 else suc rest) ≡ suc rest = ap (λ b. if b then 0 else suc rest) other in
      omega (arith, step, first)
