-- What is made of the diagrams of operands.
use Rattle.std.specs.Prelude.{ℕ, ◌≡◌, Bool, true, false, List, map, Some, slice_get, slice_index_or, if◌then◌else◌, All}
use Rattle.std.specs.List.{list_all, list_any}
use Rattle.pq_fields.specs.declared.field.Field.{Field}
use Rattle.pq_fields.specs.Packet.{Numbers}
use Rattle.pq_store.specs.declared.test.Test.{Test}
use Rattle.pq_store.specs.Tree.{Tree, value, IsTested}
use Rattle.pq_store.specs.Tree.Tree.{Tip}
use Rattle.pq_store.specs.Room.{HasRoom, Within}
use Rattle.pq_store.specs.Store.{HasAt}

-- whether all are true, or one is
abbrev pub joined : Bool → List Bool → Bool
joined true bs = list_all (λ b. b) bs
joined false bs = list_any (λ b. b) bs

-- the trees at places
abbrev pub trees_at : List (Tree Bool) → List ℕ → List (Tree Bool)
trees_at ts ids = map (λ id. slice_index_or ts id (Tip false)) ids

-- the trees may come together in one: there is room for the numbers that they test
abbrev pub FitTogetherAll : List (Tree Bool) → Type 0
FitTogetherAll us = HasRoom (λ ns. All (Within ns) us)

-- the tree holds where all of these do, or one does, and tests only what they test
pub record IsJunction (every : Bool) (us : List (Tree Bool)) (t : Tree Bool) : Type 0 where
  pub gives : (x : Numbers) → value t x ≡ joined every (map (λ u. value u x) us)
  pub tests : (ns : Field → List ℕ) → All (Within ns) us → Within ns t

-- a place has such a tree
abbrev pub JunctionAt : Bool → List (Tree Bool) → List (Tree Bool) → ℕ → Type 0
JunctionAt every us ts id = HasAt (IsJunction every us) ts id

-- the tree gives one leaf where another holds and one elsewhere, and tests only what that tests
pub record IsRecoding (there elsewhere : Bool) (t recoded : Tree Bool) : Type 0 where
  pub gives : (x : Numbers) → value recoded x ≡ (if value t x then there else elsewhere)
  pub tests : (s : Test) → IsTested s recoded → IsTested s t

-- a new place has the recoded tree of an old one
abbrev pub RecodesAt : Bool → Bool → List (Tree Bool) → ℕ → List (Tree Bool) → ℕ → Type 0
RecodesAt there elsewhere from node into id =
    (t : Tree Bool) → slice_get from node ≡ Some t → HasAt (IsRecoding there elsewhere t) into id
