-- Trees of sums, and their halves.
use Rattle.std.proofs.Common.{ℕ, zero, suc, ◌+◌, ◌*◌, ◌^◌, ◌/◌, ◌≤◌, ◌≡◌, ◌∙◌, List, [], ◌∷◌, ◌++◌, take, drop, length, length-append}
use Rattle.std.proofs.Common.{get_or, refl, sym, ap, subst, arith}
use Rattle.std.proofs.lemmas.List.{length-drop}
use Rattle.std.proofs.Math.Nat.{pow-succ'}
use Rattle.std.proofs.Math.Seq.{take-append_seam}
use Rattle.pq_fields.specs.Writes.{Written}
use Rattle.pq_model.specs.Topology.{Topology}
use Rattle.pq_policy.specs.Policy.{PolicyTree}
use Rattle.pq_store.specs.Store.{Keeps}
use Rattle.pq_store.specs.Tree.{Tree}
use Rattle.pq_rewrite.proofs.Standing.{has_still}
use Rattle.pq_meaning.specs.Parts.{IsUnionOfParts}
use Rattle.pq_sum.specs.Sum.{AreHalves, IsSumTree, UnitesParts}

-- a tree has twice the slots of its halves
pub double : (h : ℕ) → 2 ^ suc h ≡ 2 * 2 ^ h
double h = pow-succ' 2 h

pub some_slots : (h : ℕ) → 1 ≤ 2 ^ h
some_slots zero = omega arith
some_slots (suc h) = let more = some_slots h in let is = double h in omega (arith, more, is)

module _ (T : Topology) (ts : List (Tree (List Written))) where
  -- a tree has one cell less than twice its slots
  pub cells_of : (h : ℕ) (cells : List ℕ) (ps : List PolicyTree) → IsSumTree T ts h cells ps → length cells + 1 ≡ 2 * 2 ^ h
  cells_of zero cells ps tree = let is = ap (λ l. length l) tree.is in omega (arith, is)
  cells_of (suc h) cells ps tree =
      let front = cells_of h tree.front (take (2 ^ h) ps) tree.first in
      let back = cells_of h tree.back (drop (2 ^ h) ps) tree.behind in
      let both = length-append tree.front tree.back in
      let is = ap (λ l. length l) tree.is in
      let twice = double h in
      omega (arith, front, back, both, is, twice)

  -- and at most as many parts as slots
  pub parts_of : (h : ℕ) (cells : List ℕ) (ps : List PolicyTree) → IsSumTree T ts h cells ps → length ps ≤ 2 ^ h
  parts_of zero cells ps tree = let few = tree.few in omega (arith, few)
  parts_of (suc h) cells ps tree =
      let back = parts_of h tree.back (drop (2 ^ h) ps) tree.behind in
      let less = length-drop (2 ^ h) ps in
      let twice = double h in
      omega (arith, back, less, twice)

  -- it has a root
  pub some_cell : (h : ℕ) (cells : List ℕ) (ps : List PolicyTree) → IsSumTree T ts h cells ps → 1 ≤ length cells
  some_cell h cells ps tree =
      let all = cells_of h cells ps tree in
      let some = some_slots h in
      omega (arith, all, some)

  -- which is the union of all parts
  pub root_of : (h : ℕ) (cells : List ℕ) (ps : List PolicyTree) (root : ℕ) → root ≡ get_or cells 0 root → IsSumTree T ts h cells ps → UnitesParts T ts ps root
  root_of zero cells ps root at tree = subst (UnitesParts T ts ps) (sym (at ∙ ap (λ l. get_or l 0 root) tree.is)) tree.total
  root_of (suc h) cells ps root at tree = subst (UnitesParts T ts ps) (sym (at ∙ ap (λ l. get_or l 0 root) tree.is)) tree.total

-- it stays where its diagrams do
pub tree_still : (T : Topology) (old new : List (Tree (List Written))) → Keeps old new → (h : ℕ) (cells : List ℕ) (ps : List PolicyTree)
    → IsSumTree T old h cells ps → IsSumTree T new h cells ps
tree_still T old new keeps zero cells ps tree = record {
  root = tree.root;
  is = tree.is;
  total = has_still (IsUnionOfParts T ps) old new tree.root keeps tree.total;
  few = tree.few;
}
tree_still T old new keeps (suc h) cells ps tree = record {
  root = tree.root;
  front = tree.front;
  back = tree.back;
  is = tree.is;
  total = has_still (IsUnionOfParts T ps) old new tree.root keeps tree.total;
  first = tree_still T old new keeps h tree.front (take (2 ^ h) ps) tree.first;
  behind = tree_still T old new keeps h tree.back (drop (2 ^ h) ps) tree.behind;
}

module _ (T : Topology) (ts : List (Tree (List Written))) (h : ℕ) (cells : List ℕ) (ps : List PolicyTree) (tree : IsSumTree T ts (suc h) cells ps) where
  -- half of the cells after the root
  half_cells : length (drop 1 cells) / 2 ≡ length tree.front
  half_cells =
      let front = cells_of T ts h tree.front (take (2 ^ h) ps) tree.first in
      let back = cells_of T ts h tree.back (drop (2 ^ h) ps) tree.behind in
      let both = length-append tree.front tree.back in
      let is = ap (λ l. length (drop 1 l)) tree.is in
      omega (arith, front, back, both, is)

  pub front_is : take (length (drop 1 cells) / 2) (drop 1 cells) ≡ tree.front
  front_is =
      ap (λ n. take n (drop 1 cells)) half_cells
      ∙ (ap (λ l. take (length tree.front) (drop 1 l)) tree.is ∙ take-append_seam tree.front tree.back)

  pub back_is : drop (length (drop 1 cells) / 2) (drop 1 cells) ≡ tree.back
  back_is =
      ap (λ n. drop n (drop 1 cells)) half_cells
      ∙ (ap (λ l. drop (length tree.front) (drop 1 l)) tree.is ∙ drop_seam tree.front)
    where
      drop_seam : (xs : List ℕ) → drop (length xs) (xs ++ tree.back) ≡ tree.back
      drop_seam [] = refl
      drop_seam (x ∷ xs) = drop_seam xs

  pub halves_of : (front back : List ℕ) → front ≡ take (length (drop 1 cells) / 2) (drop 1 cells)
      → back ≡ drop (length (drop 1 cells) / 2) (drop 1 cells) → AreHalves T ts h front back ps
  halves_of front back is_front is_back = record {
    first = subst (λ l. IsSumTree T ts h l (take (2 ^ h) ps)) (sym (is_front ∙ front_is)) tree.first;
    behind = subst (λ l. IsSumTree T ts h l (drop (2 ^ h) ps)) (sym (is_back ∙ back_is)) tree.behind;
  }
