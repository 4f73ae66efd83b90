-- Searching states breadth first: keys of states are numbered in the order in which they are met.
use Rattle.std.specs.Prelude.{ℕ, zero, suc, ◌≡◌, ◌⊎◌, Some, List, [], ◌∷◌, ◌++◌, length}
use Rattle.std.specs.List.{slice_get}

-- the number of a key among the keys: the place of an equal one, or a new place at the end
abbrev pub IsNumber : {K : Type 0} → List K → K → ℕ → List K → Type 0
IsNumber {K} old k n new = ((new ≡ old) × (slice_get old n ≡ Some k)) ⊎ ((new ≡ old ++ k ∷ []) × (n ≡ length old))

-- the numbers of keys, one after another
abbrev pub AreNumbers : {K : Type 0} → List K → List K → List ℕ → List K → Type 0
AreNumbers {K} old [] row new = (row ≡ []) × (new ≡ old)
AreNumbers {K} old (t ∷ ts) row new = (n : ℕ) × (rest : List ℕ) × (mid : List K) × (row ≡ n ∷ rest) × IsNumber old t n mid × AreNumbers mid ts rest new

-- the keys that this many letters lead to, from this letter on
abbrev pub targets : {K : Type 0} → (K → ℕ → K) → K → ℕ → ℕ → List K
targets {K} goes k l zero = []
targets {K} goes k l (suc n) = goes k l ∷ targets goes k (suc l) n

-- the key that a word leads to
abbrev pub run : {K : Type 0} → (K → ℕ → K) → K → List ℕ → K
run {K} goes k [] = k
run {K} goes k (l ∷ w) = run goes (goes k l) w

-- a key has one place
abbrev pub IsOnce : {K : Type 0} → List K → Type 0
IsOnce {K} keys = (i j : ℕ) (k : K) → slice_get keys i ≡ Some k → slice_get keys j ≡ Some k → i ≡ j
