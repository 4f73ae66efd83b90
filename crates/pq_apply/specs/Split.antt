-- Diagrams split by the first test among their roots.
use Rattle.std.specs.Prelude.{ℕ, ◌≡◌, ◌⊎◌, List, Option, None, Some, slice_get}
use Rattle.pq_store.specs.declared.test.Test.{Test}
use Rattle.pq_store.specs.Test.{IsLawful, Precedes}
use Rattle.pq_store.specs.Tree.{Tree, past}
use Rattle.pq_store.specs.Tree.Tree.{Tip, Fork}
use Rattle.pq_store.specs.Diagram.{IsBefore}

-- the first test is the second or precedes it
abbrev pub IsAtOrBefore : Test → Test → Type 0
IsAtOrBefore s t = (s ≡ t) ⊎ Precedes s t

-- the test at a root is lawful, where there is one
abbrev pub IsLawfulRoot : Option Test → Type 0
IsLawfulRoot None = Unit {0}
IsLawfulRoot (Some t) = IsLawful t

-- the test is this root or precedes it, where there is one
abbrev pub LeadsRoot : Test → Option Test → Type 0
LeadsRoot s None = Unit {0}
LeadsRoot s (Some t) = IsAtOrBefore s t

-- the test is the first of a test and a root
pub record IsEarlier (first : Test) (other : Option Test) (s : Test) : Type 0 where
  pub is : (s ≡ first) ⊎ (Some s ≡ other)
  pub leads_first : IsAtOrBefore s first
  pub leads_other : LeadsRoot s other

module _ {L : Type 0} where
  -- the test at the root, where there is one
  abbrev pub root_of : Tree L → Option Test
  root_of (Tip l) = None
  root_of (Fork t y n) = Some t

  -- the tree at a place has this root
  abbrev pub HasRootAt : List (Tree L) → ℕ → Option Test → Type 0
  HasRootAt ts k r = (t : Tree L) → slice_get ts k ≡ Some t → root_of t ≡ r

  -- the test is the one at the root or precedes it
  abbrev pub LeadsAt : Test → List (Tree L) → ℕ → Type 0
  LeadsAt s ts k = (t : Tree L) → slice_get ts k ≡ Some t → LeadsRoot s (root_of t)

  -- what a tree says of the packets that pass the test, and of the others
  abbrev pub IsSplit : Test → Tree L → Tree L → Tree L → Type 0
  IsSplit s t y n = (t ≡ Fork s y n) ⊎ (IsBefore s t × (y ≡ past s t) × (n ≡ t))

  -- two places have what the tree at a place splits into
  abbrev pub SplitsAt : List (Tree L) → Test → ℕ → ℕ → ℕ → Type 0
  SplitsAt ts s k i j = (t : Tree L) → slice_get ts k ≡ Some t
      → (y : Tree L) × (n : Tree L) × (slice_get ts i ≡ Some y) × (slice_get ts j ≡ Some n) × IsSplit s t y n
