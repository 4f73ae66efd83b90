-- States numbered by the least words that reach them: by length, then by letters, the first that differs deciding.
use Rattle.std.specs.Prelude.{ℕ, ◌<◌, ◌≡◌, ◌⊎◌, List, [], length}
use Rattle.std.specs.Ordering.{nat_cmp}
use Rattle.std.proofs.Common.{Less}
use Rattle.std.specs.Cmp.Lexicographic.{slice_cmp}
use Rattle.std.proofs.Math.ListN.{get_or}
use Rattle.pq_auto.specs.Machine.{Machine, AllBelow, reached}

-- u is the lesser word
abbrev pub IsBefore : List ℕ → List ℕ → Type 0
IsBefore u v = (length u < length v) ⊎ ((length u ≡ length v) × (slice_cmp nat_cmp u v ≡ Less))

-- the word leads to the state, and every other word that does is greater
pub record IsLeastTo (a : Machine) (s : ℕ) (w : List ℕ) : Type 0 where
  pub word : AllBelow a.letters w
  pub leads : reached a w ≡ s
  pub least : (v : List ℕ) → AllBelow a.letters v → reached a v ≡ s → (v ≡ w) ⊎ IsBefore w v

-- the words are, state by state, the least that lead there, and they ascend
pub record AreLeast (a : Machine) (words : List (List ℕ)) : Type 0 where
  pub each : (s : ℕ) → s < length a.rows → IsLeastTo a s (get_or words s [])
  pub ascend : (s t : ℕ) → s < t → t < length a.rows → IsBefore (get_or words s []) (get_or words t [])

-- each state is reached, and states are numbered by their least words
abbrev pub IsNumbered : Machine → Type 0
IsNumbered a = (words : List (List ℕ)) × AreLeast a words
