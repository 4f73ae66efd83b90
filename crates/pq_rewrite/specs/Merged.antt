-- The set of the writes of two sets, and the tree of two.
use Rattle.std.specs.Prelude.{ℕ, ◌≡◌, ◌↔◌, ◌⊎◌, List, Some, slice_get}
use Rattle.std.specs.List.{Contains}
use Rattle.pq_fields.specs.Packet.{Numbers}
use Rattle.pq_fields.specs.Writes.{Written}
use Rattle.pq_store.specs.declared.test.Test.{Test}
use Rattle.pq_store.specs.Tree.{Tree, value, IsTested}
use Rattle.pq_store.specs.Store.{HasAt}
use Rattle.pq_rewrite.specs.Rewriting.{Ascend}

-- the list ascends and has just what one or the other list has
pub record IsMerged (a b c : List Written) : Type 0 where
  pub ascend : Ascend c
  pub each : (w : Written) → Contains c w ↔ (Contains a w ⊎ Contains b w)

-- the tree has on each packet the writes of both trees
pub record IsMerge (t u r : Tree (List Written)) : Type 0 where
  pub merged : (x : Numbers) → IsMerged (value t x) (value u x) (value r x)
  pub tests : (s : Test) → IsTested s r → IsTested s t ⊎ IsTested s u

abbrev pub MergesAt : List (Tree (List Written)) → ℕ → ℕ → List (Tree (List Written)) → ℕ → Type 0
MergesAt old i j new id =
    (t u : Tree (List Written)) → slice_get old i ≡ Some t → slice_get old j ≡ Some u → HasAt (IsMerge t u) new id
