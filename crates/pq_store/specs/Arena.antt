-- The cells of a store, and the trees that they stand for.
use Rattle.std.specs.Prelude.{ℕ, ◌≡◌, List, [], ◌∷◌, ◌++◌, Option, None, Some, length, slice_get, fold, ◌==◌, if◌then◌else◌}
use Rattle.pq_fields.specs.declared.field.Field.{Field}
use Rattle.pq_fields.specs.Packet.{rank}
use Rattle.pq_store.specs.declared.test.Test.{Test}
use Rattle.pq_store.specs.declared.test.Test.TheVariants.{Equal, Bit}
use Rattle.pq_store.specs.declared.cell.Branch.{Branch}
use Rattle.pq_store.specs.declared.cell.Cell.{Cell}
use Rattle.pq_store.specs.declared.cell.Cell.TheVariants as cell
use Rattle.pq_store.specs.Tree.{Tree, past}
use Rattle.pq_store.specs.Tree.Tree.{Tip, Fork}
use Rattle.pq_store.specs.Diagram.{IsDiagram}

-- the place of what is after the numbers of the field with which the branch at a place begins
abbrev pub behind_test : Field → Test → ℕ → ℕ → ℕ
behind_test f (Equal g v) past at = if rank f == rank g then past else at
behind_test f (Bit g i) past at = at

abbrev pub behind : Field → Branch → ℕ → ℕ
behind f b at = behind_test f b.test b.past at

module _ {L : Type 0} where
  abbrev pub put_fork : List (Tree L) → Test → Option (Tree L) → Option (Tree L) → List (Tree L)
  put_fork ts t (Some y) (Some n) = ts ++ Fork t y n ∷ []
  put_fork ts t (Some y) None = ts
  put_fork ts t None n = ts

  -- one more tree: a branch names the places of its sides
  abbrev pub put_cell : List (Tree L) → Cell L → List (Tree L)
  put_cell ts (cell.Leaf l) = ts ++ Tip l ∷ []
  put_cell ts (cell.Branch b) = put_fork ts b.test (slice_get ts b.yes) (slice_get ts b.no)

  -- the tree of each cell
  abbrev pub trees : List (Cell L) → List (Tree L)
  trees cs = fold put_cell [] cs

  -- a branch keeps the place of what its no side says past its test
  abbrev pub KnowsPast : List (Tree L) → Cell L → Type 0
  KnowsPast ts (cell.Leaf l) = Unit {0}
  KnowsPast ts (cell.Branch b) = (n : Tree L) → slice_get ts b.no ≡ Some n → slice_get ts b.past ≡ Some (past b.test n)

  -- sides are below their nodes, each tree is a diagram, and equal cells have one place
  pub record IsArena (cs : List (Cell L)) : Type 0 where
    pub grown : length (trees cs) ≡ length cs
    pub diagrams : (k : ℕ) (t : Tree L) → slice_get (trees cs) k ≡ Some t → IsDiagram t
    pub pasts : (k : ℕ) (c : Cell L) → slice_get cs k ≡ Some c → KnowsPast (trees cs) c
    pub distinct : (i j : ℕ) (c : Cell L) → slice_get cs i ≡ Some c → slice_get cs j ≡ Some c → i ≡ j

  -- the fork of the trees at two places, where both are there
  abbrev pub fork_of : Test → Option (Tree L) → Option (Tree L) → Option (Tree L)
  fork_of t (Some y) (Some n) = Some (Fork t y n)
  fork_of t (Some y) None = None
  fork_of t None n = None

  -- the tree that a cell stands for among these
  abbrev pub tree_of : List (Tree L) → Cell L → Option (Tree L)
  tree_of ts (cell.Leaf l) = Some (Tip l)
  tree_of ts (cell.Branch b) = fork_of b.test (slice_get ts b.yes) (slice_get ts b.no)

  -- the cell may be put: its tree is a diagram, and it knows what its no side says past its test
  pub record CanStand (ts : List (Tree L)) (c : Cell L) : Type 0 where
    pub tree : Tree L
    pub is : tree_of ts c ≡ Some tree
    pub diagram : IsDiagram tree
    pub past : KnowsPast ts c
