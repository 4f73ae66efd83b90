-- The course of a compaction: the places of a store that are kept, and the ids to which their trees move.
use Rattle.std.specs.Prelude.{ℕ, ◌≡◌, ◌≤◌, ◌<◌, Bool, true, false, List, Option, None, Some, length, slice_get, slice_index_or, All}
use Rattle.pq_store.specs.declared.test.Test.{Test}
use Rattle.pq_store.specs.Tree.{Tree}
use Rattle.pq_store.specs.Store.{ShowsBranch}
use Rattle.pq_store.specs.Compaction.{StandsUnder}

-- the place is marked
abbrev pub IsMarked : List Bool → ℕ → Type 0
IsMarked marks k = slice_index_or marks k false ≡ true

-- the tree at the place moved to the id
abbrev pub MovesTo : List (Option ℕ) → ℕ → ℕ → Type 0
MovesTo moved k id = slice_index_or moved k None ≡ Some id

module _ {L : Type 0} where
  -- the sides of each marked branch from a place on are marked
  abbrev pub MarksSides : List (Tree L) → ℕ → List Bool → Type 0
  MarksSides ts from kept = (k : ℕ) → from ≤ k → IsMarked kept k → (test : Test) (i j : ℕ) → ShowsBranch ts k test i j → IsMarked kept i × IsMarked kept j

  -- roots are marked, and what is under them at places from one on, and nothing else
  pub record Marks (ts : List (Tree L)) (roots : List ℕ) (from : ℕ) (kept : List Bool) : Type 0 where
    pub each : length kept ≡ length ts
    pub ends : All (IsMarked kept) roots
    pub sides : MarksSides ts from kept
    pub under : (k : ℕ) (t : Tree L) → IsMarked kept k → slice_get ts k ≡ Some t → StandsUnder ts roots t

  -- the trees at the first marked places, as many as ids are told, are the trees of a new store
  pub record Moves (ts : List (Tree L)) (kept : List Bool) (moved : List (Option ℕ)) (new : List (Tree L)) : Type 0 where
    pub same : (k id : ℕ) → MovesTo moved k id → slice_get new id ≡ slice_get ts k
    pub each : (k : ℕ) → k < length moved → IsMarked kept k → (id : ℕ) × MovesTo moved k id
    pub only : (id : ℕ) (t : Tree L) → slice_get new id ≡ Some t → (k : ℕ) × IsMarked kept k × (slice_get ts k ≡ Some t)
