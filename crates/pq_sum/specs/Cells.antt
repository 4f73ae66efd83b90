-- What the calls on the cells of a sum promise, in which each part has a slot.
use Rattle.std.specs.Prelude.{ℕ, suc, ◌+◌, ◌*◌, ◌-◌, ◌^◌, ◌≤◌, ◌<◌, ◌≡◌, List, [], ◌∷◌, take, drop, length}
use Rattle.pq_fields.specs.Writes.{Written}
use Rattle.pq_model.specs.Topology.{Topology}
use Rattle.pq_policy.specs.Policy.{PolicyTree}
use Rattle.pq_store.specs.Tree.{Tree}
use Rattle.pq_meaning.specs.Parts.{FitAsParts}
use Rattle.pq_sum.specs.Sum.{AreParts, IsSumOf, UnitesParts, replaced}

-- the item at a place, where there is one
abbrev pub at_place : {A : Type 0} → ℕ → List A → List A
at_place i xs = take 1 (drop i xs)

-- a list without the item at a place, in place of which its last item is
abbrev pub removed : {A : Type 0} → ℕ → List A → List A
removed i xs = take (length xs - 1) (replaced i (drop (length xs - 1) xs) xs)

-- diagrams of at most 1,024 parts that may come together
pub record MayOpen (ts : List (Tree (List Written))) (nodes : List ℕ) : Type 0 where
  pub topology : Topology
  pub parts : List PolicyTree
  pub each : AreParts topology ts parts nodes
  pub few : length parts ≤ 1024
  pub fits : FitAsParts topology parts

-- the sum is that of the parts
abbrev pub IsOpened : List (Tree (List Written)) → List ℕ → List (Tree (List Written)) → List ℕ → Type 0
IsOpened old nodes now cells =
    (T : Topology) (ps : List PolicyTree) → AreParts T old ps nodes → length ps ≤ 1024 → FitAsParts T ps → IsSumOf T now ps cells

-- the sum is that of parts, and with this one in the slot they may come together
pub record IsPuttable (T : Topology) (ts : List (Tree (List Written))) (cells : List ℕ) (slot node : ℕ) (ps : List PolicyTree) (p : PolicyTree) : Type 0 where
  pub sum : IsSumOf T ts ps cells
  pub gives : UnitesParts T ts (p ∷ []) node
  pub within : slot ≤ length ps
  pub room : slot < 1024
  pub fits : FitAsParts T (replaced slot (p ∷ []) ps)

pub record MayPut (ts : List (Tree (List Written))) (cells : List ℕ) (slot node : ℕ) : Type 0 where
  pub topology : Topology
  pub parts : List PolicyTree
  pub part : PolicyTree
  pub put : IsPuttable topology ts cells slot node parts part

-- the sum is that of the parts with this one in the slot
abbrev pub IsPut : List (Tree (List Written)) → List ℕ → ℕ → ℕ → List (Tree (List Written)) → List ℕ → Type 0
IsPut old cells slot node now new_cells =
    (T : Topology) (ps : List PolicyTree) (p : PolicyTree) → IsPuttable T old cells slot node ps p → IsSumOf T now (replaced slot (p ∷ []) ps) new_cells

-- that takes at most k steps where there are at most 2^k parts, before and after it
abbrev pub CountsPut : List (Tree (List Written)) → List ℕ → ℕ → ℕ → ℕ → ℕ → Type 0
CountsPut old cells slot node before after =
    (T : Topology) (ps : List PolicyTree) (p : PolicyTree) → IsPuttable T old cells slot node ps p
    → (k : ℕ) → length ps ≤ 2 ^ k → length (replaced slot (p ∷ []) ps) ≤ 2 ^ k → after ≤ before + k

-- the sum is that of parts that may come together, and these are the slots of one of them and of the last
pub record IsRemovable (T : Topology) (ts : List (Tree (List Written))) (cells : List ℕ) (slot last : ℕ) (ps : List PolicyTree) : Type 0 where
  pub sum : IsSumOf T ts ps cells
  pub all : length ps ≡ suc last
  pub within : slot ≤ last
  pub fits : FitAsParts T ps

pub record MayRemove (ts : List (Tree (List Written))) (cells : List ℕ) (slot last : ℕ) : Type 0 where
  pub topology : Topology
  pub parts : List PolicyTree
  pub remove : IsRemovable topology ts cells slot last parts

-- the sum is that of the parts without that of the slot
abbrev pub IsRemoved : List (Tree (List Written)) → List ℕ → ℕ → ℕ → List (Tree (List Written)) → List ℕ → Type 0
IsRemoved old cells slot last now new_cells =
    (T : Topology) (ps : List PolicyTree) → IsRemovable T old cells slot last ps → IsSumOf T now (removed slot ps) new_cells

-- that takes at most 2k steps where there were at most 2^k parts
abbrev pub CountsRemoval : List (Tree (List Written)) → List ℕ → ℕ → ℕ → ℕ → ℕ → Type 0
CountsRemoval old cells slot last before after =
    (T : Topology) (ps : List PolicyTree) → IsRemovable T old cells slot last ps → (k : ℕ) → length ps ≤ 2 ^ k → after ≤ before + 2 * k
