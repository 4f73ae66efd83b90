-- The leaf in a slot.
use Rattle.std.proofs.Common.{ℕ, zero, suc, ◌+◌, ◌^◌, ◌/◌, ◌-◌, ◌<◌, ◌≤◌, ◌≡◌, List, [], ◌∷◌, take, drop, length, get_or, refl, sym, ap, subst, arith}
use Rattle.std.proofs.lemmas.List.{length-drop, length-take}
use Rattle.pq_fields.specs.Writes.{Written}
use Rattle.pq_model.specs.Topology.{Topology}
use Rattle.pq_policy.specs.Policy.{PolicyTree}
use Rattle.pq_store.specs.Tree.{Tree}
use Rattle.pq_sum.specs.Sum.{AreHalves, HasLeaf, IsLeaf, IsSumTree, UnitesParts}
use Rattle.pq_sum.proofs.Trees.{cells_of, double, halves_of, root_of, some_slots}

module _ {X : Type 0} where
  -- an item of the first half
  item_before : (w i : ℕ) (xs : List X) → i < w → take 1 (drop i (take w xs)) ≡ take 1 (drop i xs)
  item_before zero i xs before = absurd (omega arith)
  item_before (suc w) zero [] before = refl
  item_before (suc w) zero (x ∷ xs) before = ap (λ l. x ∷ l) refl
  item_before (suc w) (suc i) [] before = refl
  item_before (suc w) (suc i) (x ∷ xs) before = item_before w i xs (omega arith)

  -- an item of the second half
  item_behind : (w i d : ℕ) (xs : List X) → i ≡ w + d → take 1 (drop d (drop w xs)) ≡ take 1 (drop i xs)
  item_behind zero i d xs is = let same : d ≡ i = omega (arith, is) in ap (λ j. take 1 (drop j xs)) same
  item_behind (suc w) zero d xs is = absurd (omega (arith, is))
  item_behind (suc w) (suc i) zero [] is = refl
  item_behind (suc w) (suc i) (suc d) [] is = refl
  item_behind (suc w) (suc i) d (x ∷ xs) is = item_behind w i d xs (omega (arith, is))

  -- the only item
  item_only : (xs : List X) (i : ℕ) → length xs ≤ 1 → i < length xs → take 1 (drop i xs) ≡ xs
  item_only [] i few within = absurd (omega arith)
  item_only (x ∷ []) zero few within = refl
  item_only (x ∷ []) (suc i) few within = absurd (omega arith)
  item_only (x ∷ y ∷ xs) i few within = absurd (omega arith)

-- the root of a tree of one slot
pub only_leaf : (cells : List ℕ) (slot root : ℕ) → length cells ≡ 1 → root ≡ get_or cells 0 root → IsLeaf cells slot root
only_leaf cells slot root one at T ts zero ps tree within =
    subst (λ qs. UnitesParts T ts qs root) (sym (item_only ps slot tree.few within)) (root_of T ts zero cells ps root at tree)
only_leaf cells slot root one at T ts (suc h) ps tree within =
    let all = cells_of T ts (suc h) cells ps tree in
    let twice = double h in
    let more = some_slots h in
    absurd (omega (arith, all, twice, more, one))

-- there is a first cell
pub some_leaf_cell : (cells : List ℕ) (slot : ℕ) → HasLeaf cells slot → 1 ≤ length cells
some_leaf_cell cells slot has =
    let all = cells_of has.topology has.trees has.height cells has.parts has.tree in
    let some = some_slots has.height in
    omega (arith, all, some)

-- both halves of a tree of more slots
pub record HalvesHaveLeaf (cells front back : List ℕ) (slot half : ℕ) : Type 0 where
  pub first : slot < half → HasLeaf front slot
  pub behind : half ≤ slot → HasLeaf back (slot - half)

module _ (cells front back : List ℕ) (slot half : ℕ) (more : length cells ≡ 1 → ⊥)
    (is_front : front ≡ take (length (drop 1 cells) / 2) (drop 1 cells)) (is_back : back ≡ drop (length (drop 1 cells) / 2) (drop 1 cells))
    (is_half : half ≡ length front / 2 + 1) where
  half_is : (T : Topology) (ts : List (Tree (List Written))) (h : ℕ) (ps : List PolicyTree) → AreHalves T ts h front back ps → half ≡ 2 ^ h
  half_is T ts h ps halves =
      let all = cells_of T ts h front (take (2 ^ h) ps) halves.first in
      let some = some_slots h in
      omega (arith, all, some, is_half)

  pub halves_have_leaf : HasLeaf cells slot → HalvesHaveLeaf cells front back slot half
  halves_have_leaf has = by has.height has.tree
    where
      by : (h : ℕ) → IsSumTree has.topology has.trees h cells has.parts → HalvesHaveLeaf cells front back slot half
      by zero tree = absurd (more (ap (λ l. length l) tree.is))
      by (suc h) tree =
          let halves = halves_of has.topology has.trees h cells has.parts tree front back is_front is_back in
          let slots = half_is has.topology has.trees h has.parts halves in
          let within = has.within in
          record {
            first = λ before. record {
              topology = has.topology;
              trees = has.trees;
              height = h;
              parts = take (2 ^ h) has.parts;
              tree = halves.first;
              within = let all = length-take (2 ^ h) has.parts in omega (arith, all, slots, before, within);
            };
            behind = λ behind. record {
              topology = has.topology;
              trees = has.trees;
              height = h;
              parts = drop (2 ^ h) has.parts;
              tree = halves.behind;
              within = let all = length-drop (2 ^ h) has.parts in omega (arith, all, slots, behind, within);
            };
          }

  -- the leaf of the first half is that of the tree
  pub first_leaf : slot < half → (id : ℕ) → IsLeaf front slot id → IsLeaf cells slot id
  first_leaf before id leaf T ts zero ps tree within = absurd (more (ap (λ l. length l) tree.is))
  first_leaf before id leaf T ts (suc h) ps tree within =
      let halves = halves_of T ts h cells ps tree front back is_front is_back in
      let slots = half_is T ts h ps halves in
      let all = length-take (2 ^ h) ps in
      subst (λ qs. UnitesParts T ts qs id) (item_before (2 ^ h) slot ps (omega (arith, slots, before)))
      (leaf T ts h (take (2 ^ h) ps) halves.first (omega (arith, all, slots, before, within)))

  -- and so is that of the second
  pub second_leaf : half ≤ slot → (id : ℕ) → IsLeaf back (slot - half) id → IsLeaf cells slot id
  second_leaf behind id leaf T ts zero ps tree within = absurd (more (ap (λ l. length l) tree.is))
  second_leaf behind id leaf T ts (suc h) ps tree within =
      let halves = halves_of T ts h cells ps tree front back is_front is_back in
      let slots = half_is T ts h ps halves in
      let all = length-drop (2 ^ h) ps in
      subst (λ qs. UnitesParts T ts qs id) (item_behind (2 ^ h) slot (slot - half) ps (omega (arith, slots, behind)))
      (leaf T ts h (drop (2 ^ h) ps) halves.behind (omega (arith, all, slots, behind, within)))
