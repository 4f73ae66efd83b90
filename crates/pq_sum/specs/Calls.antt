-- What the calls on a sum promise, in which each part has a place.
use Rattle.std.specs.Prelude.{ℕ, ◌+◌, ◌*◌, ◌^◌, ◌≤◌, ◌<◌, List, [], ◌∷◌, length}
use Rattle.pq_fields.specs.Writes.{Written}
use Rattle.pq_model.specs.Topology.{Topology}
use Rattle.pq_policy.specs.Policy.{PolicyTree}
use Rattle.pq_store.specs.Tree.{Tree}
use Rattle.pq_meaning.specs.Parts.{FitAsParts}
use Rattle.pq_sum.specs.Sum.{AreParts, UnitesParts, replaced}
use Rattle.pq_sum.specs.Cells.{at_place}
use Rattle.pq_sum.specs.Places.{IsSummed, Sum}

-- the sum is that of the parts
abbrev pub IsOpenedAt : List (Tree (List Written)) → List ℕ → List (Tree (List Written)) → Sum → Type 0
IsOpenedAt old nodes now s =
    (T : Topology) (ps : List PolicyTree) → AreParts T old ps nodes → length ps ≤ 1024 → FitAsParts T ps → IsSummed T now ps s

-- it is a sum of some parts
pub record IsSum (s : Sum) : Type 0 where
  pub topology : Topology
  pub trees : List (Tree (List Written))
  pub parts : List PolicyTree
  pub summed : IsSummed topology trees parts s

-- and one of them has this place
pub record HasPartAt (s : Sum) (place : ℕ) : Type 0 where
  pub is_sum : IsSum s
  pub within : place < length is_sum.parts

-- the diagram is that of the part of the place
abbrev pub IsPartAt : Sum → ℕ → ℕ → Type 0
IsPartAt s place id =
    (T : Topology) (ts : List (Tree (List Written))) (ps : List PolicyTree) → IsSummed T ts ps s → place < length ps → UnitesParts T ts (at_place place ps) id

-- the diagram is the union of all parts
abbrev pub IsTotal : Sum → ℕ → Type 0
IsTotal s id = (T : Topology) (ts : List (Tree (List Written))) (ps : List PolicyTree) → IsSummed T ts ps s → UnitesParts T ts ps id

-- the sum is that of parts, and with this one at the place they may come together
pub record IsPuttableAt (T : Topology) (ts : List (Tree (List Written))) (s : Sum) (place node : ℕ) (ps : List PolicyTree) (p : PolicyTree) : Type 0 where
  pub summed : IsSummed T ts ps s
  pub gives : UnitesParts T ts (p ∷ []) node
  pub within : place ≤ length ps
  pub room : place < 1024
  pub fits : FitAsParts T (replaced place (p ∷ []) ps)

pub record MayPutAt (ts : List (Tree (List Written))) (s : Sum) (place node : ℕ) : Type 0 where
  pub topology : Topology
  pub parts : List PolicyTree
  pub part : PolicyTree
  pub put : IsPuttableAt topology ts s place node parts part

-- the sum is that of the parts with this one at the place
abbrev pub IsPutAt : List (Tree (List Written)) → Sum → ℕ → ℕ → List (Tree (List Written)) → Sum → Type 0
IsPutAt old s place node now new =
    (T : Topology) (ps : List PolicyTree) (p : PolicyTree) → IsPuttableAt T old s place node ps p → IsSummed T now (replaced place (p ∷ []) ps) new

-- that takes at most k steps where there are at most 2^k parts, before and after it
abbrev pub CountsPutAt : List (Tree (List Written)) → Sum → ℕ → ℕ → ℕ → ℕ → Type 0
CountsPutAt old s place node before after =
    (T : Topology) (ps : List PolicyTree) (p : PolicyTree) → IsPuttableAt T old s place node ps p
    → (k : ℕ) → length ps ≤ 2 ^ k → length (replaced place (p ∷ []) ps) ≤ 2 ^ k → after ≤ before + k

-- the sum is that of parts that may come together, and one of them has this place
pub record IsRemovableAt (T : Topology) (ts : List (Tree (List Written))) (s : Sum) (place : ℕ) (ps : List PolicyTree) : Type 0 where
  pub summed : IsSummed T ts ps s
  pub within : place < length ps
  pub fits : FitAsParts T ps

pub record MayRemoveAt (ts : List (Tree (List Written))) (s : Sum) (place : ℕ) : Type 0 where
  pub topology : Topology
  pub parts : List PolicyTree
  pub remove : IsRemovableAt topology ts s place parts

-- the sum is that of the parts without that of the place
abbrev pub IsRemovedAt : List (Tree (List Written)) → Sum → ℕ → List (Tree (List Written)) → Sum → Type 0
IsRemovedAt old s place now new =
    (T : Topology) (ps : List PolicyTree) → IsRemovableAt T old s place ps → IsSummed T now (replaced place [] ps) new

-- that takes at most 2k steps where there were at most 2^k parts
abbrev pub CountsRemovalAt : List (Tree (List Written)) → Sum → ℕ → ℕ → ℕ → Type 0
CountsRemovalAt old s place before after =
    (T : Topology) (ps : List PolicyTree) → IsRemovableAt T old s place ps → (k : ℕ) → length ps ≤ 2 ^ k → after ≤ before + 2 * k

-- it is a sum of diagrams of this store
pub record IsSumIn (ts : List (Tree (List Written))) (s : Sum) : Type 0 where
  pub topology : Topology
  pub parts : List PolicyTree
  pub summed : IsSummed topology ts parts s

-- the new sum is that of the same parts, in the new store
abbrev pub IsSameSum : List (Tree (List Written)) → Sum → List (Tree (List Written)) → Sum → Type 0
IsSameSum old s now new = (T : Topology) (ps : List PolicyTree) → IsSummed T old ps s → IsSummed T now ps new
