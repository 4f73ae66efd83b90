-- Sets of operands in turn, of which empty ones take no numbers.
use Rattle.std.proofs.Common.{◌≡◌, ℕ, zero, suc, ◌+◌, ◌-◌, ◌<◌, ◌⊎◌, inl, inr, List, [], ◌∷◌, ◌++◌, length, refl, ap, arith, ◌≤◌}
use Rattle.std.proofs.Math.Seq.{take-append_seam, drop-append_seam}
use Rattle.pq_deriv.specs.Parts.{first_set, behind_set, spread, widened, set_before, wide, first_gap, behind_gap}

-- an empty set is first
pub none_first : (gap : ℕ) (r : List ℕ) → 0 < gap → first_set (gap ∷ r) ≡ []
none_first zero r some = absurd (omega (arith, some))
none_first (suc gap) r some = refl

pub behind_none : (gap : ℕ) (r : List ℕ) → 0 < gap → behind_set (gap ∷ r) ≡ ((gap - 1) ∷ r)
behind_none zero r some = absurd (omega (arith, some))
behind_none (suc gap) r some = let less : suc gap - 1 ≡ gap = omega arith in rw less refl

-- where more sets than one are empty or no number is left, one set is
pub some_idle : (k gap : ℕ) (left : List ℕ) → (suc k ≤ gap) ⊎ (length left ≡ 0) → (0 < gap) ⊎ (length left ≡ 0)
some_idle k gap left (inl h) = inl (omega (arith, h))
some_idle k gap left (inr h) = inr h

-- and so are those behind it
pub fewer_idle : (k gap : ℕ) (left : List ℕ) → (suc k ≤ gap) ⊎ (length left ≡ 0) → (k ≤ gap - 1) ⊎ (length left ≡ 0)
fewer_idle k gap left (inl h) = inl (omega (arith, h))
fewer_idle k gap left (inr h) = inr h

-- sets are read after the number of empty ones
pub spread_gap : (n : ℕ) (r : List ℕ) → spread n (first_gap r ∷ behind_gap r) ≡ spread n r
spread_gap n (gap ∷ r) = refl
spread_gap zero [] = refl
spread_gap (suc n) [] = refl

-- the set that was put in front is read first
pub first_read : (set r : List ℕ) → first_set (set_before set r) ≡ set
first_read [] [] = refl
first_read [] (gap ∷ r) = refl
first_read (n ∷ set) r = take-append_seam (n ∷ set) r

-- and after it what was there
pub behind_read : (set r : List ℕ) → behind_set (set_before set r) ≡ r
behind_read [] [] = refl
behind_read [] (gap ∷ r) = refl
behind_read (n ∷ set) r = drop-append_seam (n ∷ set) r

-- no empty set in front
pub wide_none : (r : List ℕ) → wide 0 r ≡ r
wide_none [] = refl
wide_none (gap ∷ r) = ap (λ n. n ∷ r) (omega arith)

-- one more
pub wide_more : (k : ℕ) (r : List ℕ) → wide (k + 1) r ≡ wide k (widened r)
wide_more k [] = refl
wide_more k (gap ∷ r) = ap (λ n. n ∷ r) (omega arith)

-- a set after empty ones
pub wide_before : (k : ℕ) (set r : List ℕ) → 0 < length set → wide k (set_before set r) ≡ (k ∷ length set ∷ (set ++ r))
wide_before k [] r some = absurd (omega (arith, some))
wide_before k (n ∷ set) r some = ap (λ m. m ∷ length (n ∷ set) ∷ ((n ∷ set) ++ r)) (omega arith)

-- a set that is empty
pub none_before : (set r : List ℕ) → length set ≡ 0 → set_before set r ≡ widened r
none_before [] r none = refl
none_before (n ∷ set) r none = absurd (omega (arith, none))

-- empty sets before empty sets
pub widened_wide : (k : ℕ) (r : List ℕ) → widened (wide k r) ≡ wide (suc k) r
widened_wide k [] = refl
widened_wide k (gap ∷ r) = ap (λ n. n ∷ r) (omega arith)

pub wide_wide : (j k : ℕ) (r : List ℕ) → wide j (wide k r) ≡ wide (j + k) r
wide_wide j k [] = refl
wide_wide j k (gap ∷ r) = ap (λ n. n ∷ r) (omega arith)

-- an empty set is first where a number of them does, or where no set is left
pub first_idle : (gap : ℕ) (left : List ℕ) → (0 < gap) ⊎ (length left ≡ 0) → first_set (gap ∷ left) ≡ []
first_idle gap left (inl some) = none_first gap left some
first_idle gap (n ∷ left) (inr none) = absurd (omega (arith, none))
first_idle zero [] (inr none) = refl
first_idle (suc gap) [] (inr none) = refl
