-- What the calls on a sum ask and give.
use Rattle.std.proofs.Common.{ℕ, suc, ◌+◌, ◌<◌, ◌≤◌, ◌≡◌, ◌∙◌, List, [], ◌∷◌, length, get_or, map, inl, inr, sym, ap, subst, Some, arith}
use Rattle.std.specs.Prelude.{All, slice_get}
use Rattle.std.specs.List.{range_with_len, remove}
use Rattle.std.proofs.Math.Nat.{eq-or-lt_of_le}
use Rattle.std.proofs.lemmas.Option.{slice_get-get_or}
use Rattle.std.proofs.lemmas.Slice.Zip.{AllZip-long}
use Rattle.pq_fields.specs.Writes.{Written}
use Rattle.pq_model.specs.Topology.{Topology}
use Rattle.pq_policy.specs.Policy.{PolicyTree, yields}
use Rattle.pq_store.specs.Compaction.{IsCompaction}
use Rattle.pq_store.specs.Tree.{Tree}
use Rattle.pq_store.proofs.RoomLemmas.{room_for}
use Rattle.pq_rewrite.proofs.Turns.{giving_as}
use Rattle.pq_forward.specs.Forward.{IsPolicyWithin}
use Rattle.pq_meaning.specs.Parts.{FitAsParts, IsUnionOfParts, any_yields}
use Rattle.pq_sum.specs.Sum.{HasLeaf, IsLeaf, UnitesParts, replaced}
use Rattle.pq_sum.specs.Cells.{CountsPut, CountsRemoval, IsOpened, IsPut, IsPuttable, IsRemovable, IsRemoved, MayPut, MayRemove, removed}
use Rattle.pq_sum.specs.Places.{ArePlaced, IsSlotFor, Sum, renamed}
use Rattle.pq_sum.specs.Calls.{HasPartAt, IsOpenedAt, IsPartAt, IsSameSum, IsSumIn, IsTotal}
use Rattle.pq_sum.specs.Calls.{CountsPutAt, CountsRemovalAt, IsPuttableAt, IsPutAt, IsRemovableAt, IsRemovedAt, MayPutAt, MayRemoveAt}
use Rattle.pq_sum.proofs.Moving.{cells_within, tree_moved}
use Rattle.pq_sum.proofs.Placed.{all_slotted, any_placed, any_slotted, placed_in_turn, placed_more, placed_put, placed_taken, same_item}
use Rattle.pq_sum.proofs.Placed.{slot_within, slots_length}
use Rattle.pq_sum.proofs.Trees.{parts_of, root_of}

abbrev Trees : Type 0
Trees = List (Tree (List Written))

-- The same parts in two orders.

module _ (T : Topology) (slotted ps : List PolicyTree) (slots : List ℕ) (placed : ArePlaced slotted ps slots) where
  -- their union is one
  union_placed : (t : Tree (List Written)) → IsUnionOfParts T slotted t → IsUnionOfParts T ps t
  union_placed t is = record {
    giving = giving_as (any_yields T slotted) (any_yields T ps) t
        (λ x y fit. (any_placed slotted ps slots placed (λ p. yields T p x y), any_slotted slotted ps slots placed (λ p. yields T p x y))) is.giving;
    covers = λ ns topology within. is.covers ns topology (all_slotted slotted ps slots placed (IsPolicyWithin ns) within);
  }

  united_placed : (ts : Trees) (id : ℕ) → UnitesParts T ts slotted id → UnitesParts T ts ps id
  united_placed ts id (t, there, is) = (t, there, union_placed t is)

  -- they may come together in one order where they may in the other
  fits_slotted : FitAsParts T ps → FitAsParts T slotted
  fits_slotted fits = room_for (λ ns (topology, within). (topology, all_slotted slotted ps slots placed (IsPolicyWithin ns) within)) fits

-- A sum that is opened.

pub is_opened_at : (old now : Trees) (nodes cells slots : List ℕ) → slots ≡ range_with_len 0 (length nodes) → IsOpened old nodes now cells
    → IsOpenedAt old nodes now (record { cells = cells; slots = slots })
is_opened_at old now nodes cells slots are opened T ps each few fits = record {
  slotted = ps;
  sum = opened T ps each few fits;
  placed = subst (ArePlaced ps ps)
      (sym (are ∙ ap (λ n. range_with_len 0 n) (AllZip-long (λ p id. UnitesParts T old (p ∷ []) id) ps nodes each))) (placed_in_turn ps);
}

-- Its parts, and their union.

module _ (s : Sum) (place : ℕ) where
  pub place_held : HasPartAt s place → place < length s.slots
  place_held has =
      let is = has.is_sum.summed in
      let long = slots_length is.slotted has.is_sum.parts s.slots is.placed in
      let within = has.within in
      omega (arith, long, within)

  module _ (slot : ℕ) (slot_is : slot ≡ get_or s.slots place slot) where
    slot_at : place < length s.slots → slice_get s.slots place ≡ Some slot
    slot_at within = slice_get-get_or s.slots place slot within ∙ ap (λ n. Some n) (sym slot_is)

    pub part_has_leaf : HasPartAt s place → HasLeaf s.cells slot
    part_has_leaf has = let is = has.is_sum.summed in record {
      topology = has.is_sum.topology;
      trees = has.is_sum.trees;
      height = 10;
      parts = is.slotted;
      tree = is.sum;
      within = slot_within is.slotted has.is_sum.parts s.slots is.placed place slot (slot_at (place_held has));
    }

    pub is_part_at : (id : ℕ) → IsLeaf s.cells slot id → IsPartAt s place id
    is_part_at id leaf T ts ps is within =
        let long = slots_length is.slotted ps s.slots is.placed in
        let at = slot_at (omega (arith, long, within)) in
        subst (λ qs. UnitesParts T ts qs id) (same_item is.slotted ps s.slots is.placed place slot at)
        (leaf T ts 10 is.slotted is.sum (slot_within is.slotted ps s.slots is.placed place slot at))

module _ (s : Sum) where
  pub is_total : (root : ℕ) → root ≡ get_or s.cells 0 root → IsTotal s root
  is_total root at T ts ps is = united_placed T is.slotted ps s.slots is.placed ts root (root_of T ts 10 s.cells is.slotted root at is.sum)

-- A part that is put.

pub put_within : (old : Trees) (s : Sum) (place node : ℕ) → MayPutAt old s place node → place ≤ length s.slots
put_within old s place node may =
    let is = may.put.summed in
    let long = slots_length is.slotted may.parts s.slots is.placed in
    let within = may.put.within in
    omega (arith, long, within)

module _ (old : Trees) (s : Sum) (place node slot : ℕ) (slots : List ℕ) (for : IsSlotFor s.slots place slots slot) where
  module _ (T : Topology) (ps : List PolicyTree) (p : PolicyTree) (put : IsPuttableAt T old s place node ps p) where
    -- it has a slot then
    record IsPlacedThen : Type 0 where
      placed : ArePlaced (replaced slot (p ∷ []) put.summed.slotted) (replaced place (p ∷ []) ps) slots
      within : slot ≤ length put.summed.slotted
      room : slot < 1024

    placed_then : IsPlacedThen
    placed_then =
        let is = put.summed in
        let long = slots_length is.slotted ps s.slots is.placed in
        let all = is.placed.all in
        elim (eq-or-lt_of_le put.within) [
          | inl last ↦
              let next = for.next (omega (arith, last, long)) in
              let same = next.1 in
              let room = put.room in
              record {
                placed = subst (λ n. ArePlaced (replaced n (p ∷ []) is.slotted) (replaced place (p ∷ []) ps) slots) (sym same)
                    (subst (λ l. ArePlaced (replaced place (p ∷ []) is.slotted) (replaced place (p ∷ []) ps) l) (sym next.0)
                    (placed_more is.slotted ps s.slots is.placed place last p));
                within = omega (arith, same, last, all);
                room = omega (arith, same, room);
              }
          | inr before ↦
              let held = for.held (omega (arith, before, long)) in
              let below = slot_within is.slotted ps s.slots is.placed place slot held.1 in
              let few : length is.slotted ≤ 1024 = parts_of T old 10 s.cells is.slotted is.sum in
              record {
                placed = subst (λ l. ArePlaced (replaced slot (p ∷ []) is.slotted) (replaced place (p ∷ []) ps) l) (sym held.0)
                    (placed_put is.slotted ps s.slots is.placed place slot held.1 p);
                within = omega (arith, below);
                room = omega (arith, below, few);
              }
        ]

    puttable : IsPuttable T old s.cells slot node put.summed.slotted p
    puttable = record {
      sum = put.summed.sum;
      gives = put.gives;
      within = placed_then.within;
      room = placed_then.room;
      fits = fits_slotted T (replaced slot (p ∷ []) put.summed.slotted) (replaced place (p ∷ []) ps) slots placed_then.placed put.fits;
    }

  pub may_put_cells : MayPutAt old s place node → MayPut old s.cells slot node
  may_put_cells may = record {
    topology = may.topology;
    parts = may.put.summed.slotted;
    part = may.part;
    put = puttable may.topology may.parts may.part may.put;
  }

  pub is_put_at : (now : Trees) (cells : List ℕ) → IsPut old s.cells slot node now cells
      → IsPutAt old s place node now (record { cells = cells; slots = slots })
  is_put_at now cells is_put T ps p put = record {
    slotted = replaced slot (p ∷ []) put.summed.slotted;
    sum = is_put T put.summed.slotted p (puttable T ps p put);
    placed = (placed_then T ps p put).placed;
  }

  pub counts_put_at : (before after : ℕ) → CountsPut old s.cells slot node before after → CountsPutAt old s place node before after
  counts_put_at before after counts T ps p put k few more =
      let all = put.summed.placed.all in
      let then_all = (placed_then T ps p put).placed.all in
      counts T put.summed.slotted p (puttable T ps p put) k (omega (arith, all, few)) (omega (arith, then_all, more))

-- A part that is taken out.

pub removal_within : (old : Trees) (s : Sum) (place : ℕ) → MayRemoveAt old s place → place < length s.slots
removal_within old s place may =
    let is = may.remove.summed in
    let long = slots_length is.slotted may.parts s.slots is.placed in
    let within = may.remove.within in
    omega (arith, long, within)

module _ (old : Trees) (s : Sum) (place slot last : ℕ) (slot_is : slot ≡ get_or s.slots place slot) (last_is : last + 1 ≡ length s.slots) where
  module _ (T : Topology) (ps : List PolicyTree) (may : IsRemovableAt T old s place ps) where
    slot_there : slice_get s.slots place ≡ Some slot
    slot_there =
        let long = slots_length may.summed.slotted ps s.slots may.summed.placed in
        let within = may.within in
        slot_at s place slot slot_is (omega (arith, long, within))

    slotted_all : length may.summed.slotted ≡ suc last
    slotted_all =
        let long = slots_length may.summed.slotted ps s.slots may.summed.placed in
        let all = may.summed.placed.all in
        omega (arith, long, all, last_is)

    removable : IsRemovable T old s.cells slot last may.summed.slotted
    removable = record {
      sum = may.summed.sum;
      all = slotted_all;
      within = let all = slotted_all in let below = slot_within may.summed.slotted ps s.slots may.summed.placed place slot slot_there in
          omega (arith, all, below);
      fits = fits_slotted T may.summed.slotted ps s.slots may.summed.placed may.fits;
    }

  pub may_remove_cells : MayRemoveAt old s place → MayRemove old s.cells slot last
  may_remove_cells may = record {
    topology = may.topology;
    parts = may.remove.summed.slotted;
    remove = removable may.topology may.parts may.remove;
  }

  pub is_removed_at : (now : Trees) (cells slots : List ℕ) → slots ≡ map (renamed last slot) (remove s.slots place) → IsRemoved old s.cells slot last now cells
      → IsRemovedAt old s place now (record { cells = cells; slots = slots })
  is_removed_at now cells slots are is_removed T ps may = record {
    slotted = removed slot may.summed.slotted;
    sum = is_removed T may.summed.slotted (removable T ps may);
    placed = subst (ArePlaced (removed slot may.summed.slotted) (replaced place [] ps)) (sym are)
        (placed_taken may.summed.slotted ps s.slots may.summed.placed place slot (slot_there T ps may) last (slotted_all T ps may));
  }

  pub counts_removal_at : (before after : ℕ) → CountsRemoval old s.cells slot last before after → CountsRemovalAt old s place before after
  counts_removal_at before after counts T ps may k few =
      let all = may.summed.placed.all in
      counts T may.summed.slotted (removable T ps may) k (omega (arith, all, few))

-- A sum that is copied.

pub sum_within : (ts : Trees) (s : Sum) → IsSumIn ts s → All (λ id. id < length ts) s.cells
sum_within ts s sum = cells_within sum.topology ts 10 s.cells sum.summed.slotted sum.summed.sum

pub is_same_sum : (old now : Trees) (s : Sum) (cells slots : List ℕ) → slots ≡ s.slots → IsCompaction old s.cells now cells
    → IsSameSum old s now (record { cells = cells; slots = slots })
is_same_sum old now s cells slots are compact T ps is = record {
  slotted = is.slotted;
  sum = tree_moved T old now 10 s.cells cells is.slotted compact.same is.sum;
  placed = subst (ArePlaced is.slotted ps) (sym are) is.placed;
}
