-- A number that a list lacks.
use Rattle.std.proofs.Common.{◌≡◌, ℕ, zero, suc, ◌<◌, ◌⊎◌, List, [], ◌∷◌, length, sym, ◌∙◌, inl, inr, arith}
use Rattle.std.specs.Prelude.{◌==◌, if◌then◌else◌}
use Rattle.std.proofs.lemmas.Bool.Decides.{eqb_tells}

-- the number is none of these
abbrev pub IsNone : ℕ → List ℕ → Type 0
IsNone v [] = Unit {0}
IsNone v (x ∷ xs) = (v ≡ x → ⊥) × IsNone v xs

-- the list without the first place of a number
abbrev without : ℕ → List ℕ → List ℕ
without v [] = []
without v (x ∷ xs) = if v == x then xs else x ∷ without v xs

-- a list that has the number gets shorter without it
none_or_shorter : (v : ℕ) (xs : List ℕ) → IsNone v xs ⊎ (length (without v xs) < length xs)
none_or_shorter v [] = inl tt
none_or_shorter v (x ∷ xs) = elim (eqb_tells v x) [
  | inl same ↦ inr (rw same.0 (omega arith))
  | inr other ↦ elim (none_or_shorter v xs) [ inl none ↦ inl (other.1, none) | inr shorter ↦ inr (rw other.0 (omega arith)) ]
]

-- another number that is none of what is left is none of the list
none_without : (u v : ℕ) (xs : List ℕ) → (u ≡ v → ⊥) → IsNone u (without v xs) → IsNone u xs
none_without u v [] differ none = tt
none_without u v (x ∷ xs) differ none = elim (eqb_tells v x) [
  | inl same ↦ (λ is. differ (is ∙ sym same.1), rw same.0 at none)
  | inr other ↦ let left : (u ≡ x → ⊥) × IsNone u (without v xs) = rw other.0 at none in (left.0, none_without u v xs differ left.1)
]

-- among more numbers than the list has, one is none of it
pub fresh : (n : ℕ) (xs : List ℕ) → length xs < n → (v : ℕ) × (v < n) × IsNone v xs
fresh zero xs few = absurd (omega arith)
fresh (suc n) xs few = elim (none_or_shorter n xs) [
  | inl none ↦ (n, omega arith, none)
  | inr shorter ↦
      let found = fresh n (without n xs) (omega arith) in
      let below : found.0 < n = found.1 in
      (found.0, omega arith, none_without found.0 n xs (λ same. omega arith) found.2)
]
