-- A sum: parts in an order of their own, and the slots in which they are.
use Rattle.std.specs.Prelude.{ℕ, ◌≡◌, ◌<◌, ◌==◌, List, [], ◌∷◌, ◌++◌, length, Some, nat_eq, slice_get, if◌then◌else◌}
use Rattle.std.specs.List.{AllZip, IsDistinct}
use Rattle.pq_fields.specs.Writes.{Written}
use Rattle.pq_model.specs.Topology.{Topology}
use Rattle.pq_policy.specs.Policy.{PolicyTree}
use Rattle.pq_store.specs.Tree.{Tree}
use Rattle.pq_sum.specs.Sum.{IsSumOf}

-- the cells of the tree of the slots, and for each place the slot of its part
pub record Sum : Type 0 where
  pub cells : List ℕ
  pub slots : List ℕ

-- two orders of the same items: the item of each place is in the slot of the place, and the slots differ
pub record ArePlaced {A : Type 0} (slotted placed : List A) (slots : List ℕ) : Type 0 where
  pub all : length slotted ≡ length placed
  pub each : AllZip (λ x slot. slice_get slotted slot ≡ Some x) placed slots
  pub differ : IsDistinct nat_eq slots

-- a sum of these parts in the order of their places: its cells are the tree of the same parts in the order of their slots
pub record IsSummed (T : Topology) (ts : List (Tree (List Written))) (ps : List PolicyTree) (s : Sum) : Type 0 where
  pub slotted : List PolicyTree
  pub sum : IsSumOf T ts slotted s.cells
  pub placed : ArePlaced slotted ps s.slots

-- the slot in which an item of this place is to be: that of the place, or the next one where there is no such place yet
pub record IsSlotFor (old : List ℕ) (place : ℕ) (new : List ℕ) (slot : ℕ) : Type 0 where
  pub held : place < length old → (new ≡ old) × (slice_get old place ≡ Some slot)
  pub next : place ≡ length old → (new ≡ old ++ place ∷ []) × (slot ≡ place)

-- the slot of an item where that of the last slot moves into another
abbrev pub renamed : ℕ → ℕ → ℕ → ℕ
renamed last slot s = if s == last then slot else s
