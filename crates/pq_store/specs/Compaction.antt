-- A store with only what is under some ids of another.
use Rattle.std.specs.Prelude.{ℕ, ◌≡◌, List, Some, slice_get}
use Rattle.std.specs.List.{Any, AllZip}
use Rattle.pq_store.specs.Tree.{Tree, IsPartOf}

module _ {L : Type 0} where
  -- the tree is in the tree at one of these places
  abbrev pub StandsUnder : List (Tree L) → List ℕ → Tree L → Type 0
  StandsUnder ts roots t = Any (λ root. (u : Tree L) × (slice_get ts root ≡ Some u) × IsPartOf t u) roots

  -- position by position the new ids have the trees of the old ones, and each new tree is under one of them
  pub record IsCompaction (old : List (Tree L)) (roots : List ℕ) (new : List (Tree L)) (ids : List ℕ) : Type 0 where
    pub same : AllZip (λ root id. slice_get new id ≡ slice_get old root) roots ids
    pub under : (k : ℕ) (t : Tree L) → slice_get new k ≡ Some t → StandsUnder new ids t
