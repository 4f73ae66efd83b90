-- Diagrams with each leaf replaced.
use Rattle.std.specs.Prelude.{ℕ, ◌≡◌, Bool, true, List, Some, slice_get}
use Rattle.pq_fields.specs.Packet.{Numbers}
use Rattle.pq_store.specs.declared.test.Test.{Test}
use Rattle.pq_store.specs.Tree.{Tree, value, IsTested}
use Rattle.pq_store.specs.Room.{HasRoom, Within}
use Rattle.pq_store.specs.Store.{HasAt}

-- there is room for the numbers that the tree tests
abbrev pub FitsAloneAt : {L : Type 0} → List (Tree L) → ℕ → Type 0
FitsAloneAt {L} ts k = (t : Tree L) → slice_get ts k ≡ Some t → HasRoom (λ ns. Within ns t)

-- the diagram has on each packet what R makes of another's leaf and `true`, and tests only what the other tests
pub record IsMap {A C : Type 0} (R : A → Bool → C → Type 0) (t : Tree A) (r : Tree C) : Type 0 where
  pub gives : (x : Numbers) → R (value t x) true (value r x)
  pub tests : (s : Test) → IsTested s r → IsTested s t

abbrev pub MapsAt : {A C : Type 0} → (A → Bool → C → Type 0) → List (Tree A) → ℕ → List (Tree C) → ℕ → Type 0
MapsAt {A} R from k into id = (t : Tree A) → slice_get from k ≡ Some t → HasAt (IsMap R t) into id
