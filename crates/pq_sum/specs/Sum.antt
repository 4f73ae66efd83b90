-- A balanced tree of unions of parts.
use Rattle.std.specs.Prelude.{ℕ, zero, suc, ◌+◌, ◌^◌, ◌≤◌, ◌<◌, ◌≡◌, List, [], ◌∷◌, ◌++◌, take, drop, length, Some, slice_get}
use Rattle.std.specs.List.{AllZip}
use Rattle.pq_fields.specs.Writes.{Written}
use Rattle.pq_model.specs.Topology.{Topology}
use Rattle.pq_policy.specs.Policy.{PolicyTree}
use Rattle.pq_store.specs.Store.{HasAt}
use Rattle.pq_store.specs.Tree.{Tree}
use Rattle.pq_store.specs.Tree.Tree.{Tip}
use Rattle.pq_meaning.specs.Parts.{FitAsParts, IsUnionOfParts}

-- a list with these in place of the item at a place; where it has none there, with these after its last
abbrev pub replaced : {A : Type 0} → ℕ → List A → List A → List A
replaced i new xs = take i xs ++ (new ++ drop (suc i) xs)

-- the diagram at the id gives what these parts give
abbrev pub UnitesParts : Topology → List (Tree (List Written)) → List PolicyTree → ℕ → Type 0
UnitesParts T ts ps id = HasAt (IsUnionOfParts T ps) ts id

-- each diagram gives what the part at its place gives
abbrev pub AreParts : Topology → List (Tree (List Written)) → List PolicyTree → List ℕ → Type 0
AreParts T ts ps ids = AllZip (λ p id. UnitesParts T ts (p ∷ []) id) ps ids

-- the diagram at the id gives nothing
abbrev pub GivesNone : List (Tree (List Written)) → ℕ → Type 0
GivesNone ts id = slice_get ts id ≡ Some (Tip [])

-- two diagrams give what parts give that may come together
pub record MayJoin (ts : List (Tree (List Written))) (i j : ℕ) : Type 0 where
  pub topology : Topology
  pub first : List PolicyTree
  pub behind : List PolicyTree
  pub front : UnitesParts topology ts first i
  pub back : UnitesParts topology ts behind j
  pub fits : FitAsParts topology (first ++ behind)

-- a tree of one slot, in which one part is, or none
pub record IsSlot (T : Topology) (ts : List (Tree (List Written))) (cells : List ℕ) (ps : List PolicyTree) : Type 0 where
  pub root : ℕ
  pub is : cells ≡ root ∷ []
  pub total : UnitesParts T ts ps root
  pub few : length ps ≤ 1

-- a tree of two such trees, the first of which has the first parts, as many as it has slots
pub record IsFork (T : Topology) (ts : List (Tree (List Written))) (IsHalf : List ℕ → List PolicyTree → Type 0) (slots : ℕ) (cells : List ℕ)
    (ps : List PolicyTree) : Type 0 where
  pub root : ℕ
  pub front : List ℕ
  pub back : List ℕ
  pub is : cells ≡ root ∷ (front ++ back)
  pub total : UnitesParts T ts ps root
  pub first : IsHalf front (take slots ps)
  pub behind : IsHalf back (drop slots ps)

-- a tree of this height: its root is the union of the parts, and is before the cells of both halves
abbrev pub IsSumTree : Topology → List (Tree (List Written)) → ℕ → List ℕ → List PolicyTree → Type 0
IsSumTree T ts zero cells ps = IsSlot T ts cells ps
IsSumTree T ts (suc h) cells ps = IsFork T ts (IsSumTree T ts h) (2 ^ h) cells ps

-- the tree of 1,024 slots
abbrev pub IsSumOf : Topology → List (Tree (List Written)) → List PolicyTree → List ℕ → Type 0
IsSumOf T ts ps cells = IsSumTree T ts 10 cells ps

-- in a list of at most this many slots the item at a slot may be replaced, or the slot after the last be filled, or the last one be emptied
pub record IsReplacement (slots : ℕ) (ps : List PolicyTree) (slot : ℕ) (new : List PolicyTree) : Type 0 where
  pub few : length new ≤ 1
  pub within : slot ≤ length ps
  pub room : slot < slots
  pub last : new ≡ [] → length ps ≡ suc slot

-- what a leaf is put in place of: it gives what the new parts give, which may come together with the others
pub record IsChange (T : Topology) (ts : List (Tree (List Written))) (slots : ℕ) (ps : List PolicyTree) (slot leaf : ℕ) (new : List PolicyTree) : Type 0 where
  pub gives : UnitesParts T ts new leaf
  pub replaces : IsReplacement slots ps slot new
  pub fits : FitAsParts T (replaced slot new ps)

-- a leaf may be put into the slot of a tree
pub record MayChange (ts : List (Tree (List Written))) (cells : List ℕ) (slot leaf : ℕ) : Type 0 where
  pub topology : Topology
  pub height : ℕ
  pub parts : List PolicyTree
  pub new : List PolicyTree
  pub tree : IsSumTree topology ts height cells parts
  pub change : IsChange topology ts (2 ^ height) parts slot leaf new

-- the cells are those of the tree with the leaf in the slot
abbrev pub IsChanged : List (Tree (List Written)) → List ℕ → ℕ → ℕ → List (Tree (List Written)) → List ℕ → Type 0
IsChanged old cells slot leaf now new_cells =
    (T : Topology) (h : ℕ) (ps new : List PolicyTree) → IsSumTree T old h cells ps → IsChange T old (2 ^ h) ps slot leaf new
    → IsSumTree T now h new_cells (replaced slot new ps)

-- that takes at most k steps where the parts are at most 2^k, before and after it
abbrev pub IsCounted : List (Tree (List Written)) → List ℕ → ℕ → ℕ → ℕ → ℕ → Type 0
IsCounted old cells slot leaf before after =
    (T : Topology) (h : ℕ) (ps new : List PolicyTree) → IsSumTree T old h cells ps → IsChange T old (2 ^ h) ps slot leaf new
    → (k : ℕ) → length ps ≤ 2 ^ k → length (replaced slot new ps) ≤ 2 ^ k → after ≤ before + k

-- the cells of both halves of a tree
pub record AreHalves (T : Topology) (ts : List (Tree (List Written))) (h : ℕ) (front back : List ℕ) (ps : List PolicyTree) : Type 0 where
  pub first : IsSumTree T ts h front (take (2 ^ h) ps)
  pub behind : IsSumTree T ts h back (drop (2 ^ h) ps)

-- a leaf may be put into the slot of one of two halves
pub record MayChangeHalf (ts : List (Tree (List Written))) (front back : List ℕ) (slot leaf : ℕ) : Type 0 where
  pub topology : Topology
  pub height : ℕ
  pub parts : List PolicyTree
  pub new : List PolicyTree
  pub halves : AreHalves topology ts height front back parts
  pub change : IsChange topology ts (2 ^ suc height) parts slot leaf new

-- the cells are those of the halves with the leaf in the slot
abbrev pub AreChanged : List (Tree (List Written)) → List ℕ → List ℕ → ℕ → ℕ → List (Tree (List Written)) → List ℕ → List ℕ → Type 0
AreChanged old front back slot leaf now new_front new_back =
    (T : Topology) (h : ℕ) (ps new : List PolicyTree) → AreHalves T old h front back ps → IsChange T old (2 ^ suc h) ps slot leaf new
    → AreHalves T now h new_front new_back (replaced slot new ps)

-- that takes at most k steps where the parts are at most 2^k, before and after it, and at most the height of the halves
abbrev pub AreCounted : List (Tree (List Written)) → List ℕ → List ℕ → ℕ → ℕ → ℕ → ℕ → Type 0
AreCounted old front back slot leaf before after =
    (T : Topology) (h : ℕ) (ps new : List PolicyTree) → AreHalves T old h front back ps → IsChange T old (2 ^ suc h) ps slot leaf new
    → (after ≤ before + h) × ((k : ℕ) → k ≤ h → length ps ≤ 2 ^ k → length (replaced slot new ps) ≤ 2 ^ k → after ≤ before + k)

-- the diagrams of parts may be put into an empty tree
pub record MayFill (ts : List (Tree (List Written))) (cells nodes : List ℕ) : Type 0 where
  pub topology : Topology
  pub height : ℕ
  pub parts : List PolicyTree
  pub empty : IsSumTree topology ts height cells []
  pub each : AreParts topology ts parts nodes
  pub few : length parts ≤ 2 ^ height
  pub fits : FitAsParts topology parts

-- the cells are those of their tree
abbrev pub IsFilled : List (Tree (List Written)) → List ℕ → List ℕ → List (Tree (List Written)) → List ℕ → Type 0
IsFilled old cells nodes now new_cells =
    (T : Topology) (h : ℕ) (ps : List PolicyTree) → IsSumTree T old h cells [] → AreParts T old ps nodes → length ps ≤ 2 ^ h → FitAsParts T ps
    → IsSumTree T now h new_cells ps

-- a part is in the slot of a tree
pub record HasLeaf (cells : List ℕ) (slot : ℕ) : Type 0 where
  pub topology : Topology
  pub trees : List (Tree (List Written))
  pub height : ℕ
  pub parts : List PolicyTree
  pub tree : IsSumTree topology trees height cells parts
  pub within : slot < length parts

-- the diagram is that of the part in the slot
abbrev pub IsLeaf : List ℕ → ℕ → ℕ → Type 0
IsLeaf cells slot id =
    (T : Topology) (ts : List (Tree (List Written))) (h : ℕ) (ps : List PolicyTree) → IsSumTree T ts h cells ps → slot < length ps
    → UnitesParts T ts (take 1 (drop slot ps)) id
