-- What the calls of a store promise: the store is the list of its trees, an id is the place of one.
use Rattle.std.specs.Prelude.{ℕ, ◌≡◌, ◌<◌, ◌⊎◌, List, Option, Some, length, slice_get}
use Rattle.std.specs.Option.{option_map}
use Rattle.pq_fields.specs.Packet.{Numbers, Fit}
use Rattle.pq_store.specs.declared.test.Test.{Test}
use Rattle.pq_store.specs.Test.{IsLawful}
use Rattle.pq_store.specs.Tree.{Tree, value, past}
use Rattle.pq_store.specs.Tree.Tree.{Fork}
use Rattle.pq_store.specs.Diagram.{IsBefore, SkipsBelow, Fits, HasEqualSides, IsDiagram}

-- the tree at a place is such
abbrev pub HasAt : {L : Type 0} → (Tree L → Type 0) → List (Tree L) → ℕ → Type 0
HasAt {L} P ts k = (t : Tree L) × (slice_get ts k ≡ Some t) × P t

module _ {L : Type 0} where
  -- the value on a packet of the tree at a place
  abbrev pub value_at : List (Tree L) → ℕ → Numbers → Option L
  value_at ts k x = option_map (λ t. value t x) (slice_get ts k)

  -- each id keeps its tree
  abbrev pub Keeps : List (Tree L) → List (Tree L) → Type 0
  Keeps old new = (k : ℕ) (t : Tree L) → slice_get old k ≡ Some t → slice_get new k ≡ Some t

  -- no tree is new but that of one id
  abbrev pub AddsOnly : List (Tree L) → List (Tree L) → ℕ → Type 0
  AddsOnly old new id = (k : ℕ) (t : Tree L) → slice_get new k ≡ Some t → (slice_get old k ≡ Some t) ⊎ (k ≡ id)

  abbrev pub AreDiagrams : List (Tree L) → Type 0
  AreDiagrams ts = (k : ℕ) (t : Tree L) → slice_get ts k ≡ Some t → IsDiagram t

  -- ids whose values are equal on every packet are equal
  abbrev pub IsCanonical : List (Tree L) → Type 0
  IsCanonical ts = (i j : ℕ) → i < length ts → j < length ts → ((x : Numbers) → Fit x → value_at ts i x ≡ value_at ts j x) → i ≡ j

  -- the tree at a place is a fork of the trees at two places below it
  pub record ShowsBranch (ts : List (Tree L)) (k : ℕ) (test : Test) (i j : ℕ) : Type 0 where
    pub yes_tree : Tree L
    pub no_tree : Tree L
    pub is : slice_get ts k ≡ Some (Fork test yes_tree no_tree)
    pub yes_is : slice_get ts i ≡ Some yes_tree
    pub no_is : slice_get ts j ≡ Some no_tree
    pub yes_below : i < k
    pub no_below : j < k

  -- two diagrams may be the sides of a test
  pub record IsJoinable (test : Test) (y n : Tree L) : Type 0 where
    pub lawful : IsLawful test
    pub before_yes : IsBefore test y
    pub before_no : IsBefore test n
    pub once : SkipsBelow test y
    pub fits : Fits (Fork test y n)

  -- the test with these sides, where they are not equal
  abbrev pub IsJoin : Test → Tree L → Tree L → Tree L → Type 0
  IsJoin test y n joined = (HasEqualSides test y n × (joined ≡ n)) ⊎ ((HasEqualSides test y n → ⊥) × (joined ≡ Fork test y n))

  -- a new id joins the trees of two old ones
  abbrev pub JoinsAt : List (Tree L) → Test → ℕ → ℕ → List (Tree L) → ℕ → Type 0
  JoinsAt old test i j new k = (y n : Tree L) → slice_get old i ≡ Some y → slice_get old j ≡ Some n → HasAt (IsJoin test y n) new k

  -- an id whose tree is what another says past the test
  abbrev pub IsPastAt : List (Tree L) → Test → ℕ → ℕ → Type 0
  IsPastAt ts test k r = (t : Tree L) → slice_get ts k ≡ Some t → slice_get ts r ≡ Some (past test t)
