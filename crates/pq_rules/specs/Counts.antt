-- How many entries trees give.
use Rattle.std.specs.Prelude.{◌≡◌, ◌<◌, ◌+◌, ◌-◌, ◌^◌, ℕ, List, All, length, min}
use Rattle.pq_store.specs.Tree.{Tree}
use Rattle.pq_store.specs.Tree.Tree.{Tip, Fork}
use Rattle.pq_store.specs.Store.{HasAt}

-- the number of paths to leaves
abbrev pub path_count : {L : Type 0} → Tree L → ℕ
path_count (Tip l) = 1
path_count (Fork s y n) = path_count y + path_count n

-- a number, or the greatest of 64 bits where it is greater
abbrev pub capped : ℕ → ℕ
capped n = min n (2 ^ 64 - 1)

-- the tree at a place has this many paths
abbrev pub CountsAt : {L : Type 0} → List (Tree L) → ℕ → ℕ → Type 0
CountsAt ts k n = HasAt (λ t. n ≡ capped (path_count t)) ts k

-- ids of trees of the store
abbrev pub AreWithin : {L : Type 0} → List (Tree L) → List (ℕ × ℕ) → Type 0
AreWithin ts ids = All (λ p. p.1 < length ts) ids
