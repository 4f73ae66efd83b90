-- Items in two orders, and the slots of their places.
use Rattle.std.proofs.Common.{ℕ, zero, suc, ◌+◌, ◌<◌, ◌≤◌, ◌≡◌, ◌≢◌, ◌∙◌, List, [], ◌∷◌, ◌++◌, length, get_or, map, inl, inr, refl, sym, ap, subst, Some, arith}
use Rattle.std.specs.Prelude.{All, slice_get}
use Rattle.std.specs.List.{AllZip, Any, IsDistinct, range_with_len, remove}
use Rattle.std.specs.Prelude.{nat_eq}
use Rattle.std.proofs.lemmas.Bool.Decides.{eqb_tells}
use Rattle.std.proofs.lemmas.List.{length-append}
use Rattle.std.proofs.lemmas.Option.{get_or_from_slice_get, same_Some, slice_get-get_or, slice_get_within}
use Rattle.pq_lists.proofs.Ranges.{range_differs}
use Rattle.pq_sum.specs.Cells.{at_place, removed}
use Rattle.pq_sum.specs.Places.{ArePlaced, renamed}
use Rattle.pq_sum.specs.Sum.{replaced}
use Rattle.pq_sum.proofs.Items.{item_at, put_elsewhere, put_here, put_last, put_length, removed_elsewhere, removed_here, removed_length, taken_length}
use Rattle.pq_sum.proofs.Differing.{NoneIs, apart, differ_more, differ_renamed, differ_taken, none_at, others, place_of_slot, renamed_last, renamed_other}

-- Items and slots side by side.

module _ {X : Type 0} (R Q : X → ℕ → Type 0) (slot : ℕ) (still : (x : X) (s : ℕ) → s ≢ slot → R x s → Q x s) where
  zip_still : (xs : List X) (ss : List ℕ) → AllZip R xs ss → NoneIs slot ss → AllZip Q xs ss
  zip_still [] [] each none = tt
  zip_still [] (s ∷ ss) each none = absurd each
  zip_still (x ∷ xs) [] each none = absurd each
  zip_still (x ∷ xs) (s ∷ ss) each none = (still x s (apart slot s none.0) each.0, zip_still xs ss each.1 none.1)

  -- one item taken out
  zip_taken : (place : ℕ) (xs : List X) (ss : List ℕ) → AllZip R xs ss → IsDistinct nat_eq ss → slice_get ss place ≡ Some slot
      → AllZip Q (replaced place [] xs) (remove ss place)
  unfolding IsDistinct
  zip_taken place [] [] each differ at = absurd cc
  zip_taken place [] (s ∷ ss) each differ at = absurd each
  zip_taken place (x ∷ xs) [] each differ at = absurd each
  zip_taken zero (x ∷ xs) (s ∷ ss) each differ at = zip_still xs ss each.1 (subst (λ t. NoneIs t ss) (same_Some s slot at) differ.0)
  zip_taken (suc place) (x ∷ xs) (s ∷ ss) each differ at =
      (still x s (λ same. none_at s slot ss place differ.0 at (sym same)) each.0, zip_taken place xs ss each.1 differ.1 at)

  -- one item in place of another
  zip_put : (place : ℕ) (xs : List X) (ss : List ℕ) (new : X) → Q new slot → AllZip R xs ss → IsDistinct nat_eq ss → slice_get ss place ≡ Some slot
      → AllZip Q (replaced place (new ∷ []) xs) ss
  unfolding IsDistinct
  zip_put place [] [] new here each differ at = absurd cc
  zip_put place [] (s ∷ ss) new here each differ at = absurd each
  zip_put place (x ∷ xs) [] new here each differ at = absurd each
  zip_put zero (x ∷ xs) (s ∷ ss) new here each differ at =
      (subst (λ t. Q new t) (sym (same_Some s slot at)) here, zip_still xs ss each.1 (subst (λ t. NoneIs t ss) (same_Some s slot at) differ.0))
  zip_put (suc place) (x ∷ xs) (s ∷ ss) new here each differ at =
      (still x s (λ same. none_at s slot ss place differ.0 at (sym same)) each.0, zip_put place xs ss new here each.1 differ.1 at)

module _ {X : Type 0} (R Q : X → ℕ → Type 0) (f : ℕ → ℕ) (into : (x : X) (s : ℕ) → R x s → Q x (f s)) where
  zip_map : (xs : List X) (ss : List ℕ) → AllZip R xs ss → AllZip Q xs (map f ss)
  zip_map [] [] each = tt
  zip_map [] (s ∷ ss) each = absurd each
  zip_map (x ∷ xs) [] each = absurd each
  zip_map (x ∷ xs) (s ∷ ss) each = (into x s each.0, zip_map xs ss each.1)

module _ {X : Type 0} (R Q : X → ℕ → Type 0) (into : (x : X) (s : ℕ) → R x s → Q x s) where
  -- one item more
  zip_more : (xs : List X) (ss : List ℕ) (x : X) (s : ℕ) → AllZip R xs ss → Q x s → AllZip Q (xs ++ x ∷ []) (ss ++ s ∷ [])
  zip_more [] [] x s each last = (last, tt)
  zip_more [] (t ∷ ss) x s each last = absurd each
  zip_more (y ∷ xs) [] x s each last = absurd each
  zip_more (y ∷ xs) (t ∷ ss) x s each last = (into y t each.0, zip_more xs ss x s each.1 last)

module _ {X : Type 0} (R : X → ℕ → Type 0) where
  zip_length : (xs : List X) (ss : List ℕ) → AllZip R xs ss → length ss ≡ length xs
  zip_length [] [] each = refl
  zip_length [] (s ∷ ss) each = absurd each
  zip_length (x ∷ xs) [] each = absurd each
  zip_length (x ∷ xs) (s ∷ ss) each = ap (λ n. suc n) (zip_length xs ss each.1)

  -- the slot of an item, and the item of a slot
  zip_slot : (xs : List X) (ss : List ℕ) (place : ℕ) (x : X) → AllZip R xs ss → slice_get xs place ≡ Some x → (s : ℕ) × (slice_get ss place ≡ Some s) × R x s
  zip_slot [] ss place x each at = absurd cc
  zip_slot (y ∷ xs) [] place x each at = absurd each
  zip_slot (y ∷ xs) (s ∷ ss) zero x each at = (s, refl, subst (λ z. R z s) (same_Some y x at) each.0)
  zip_slot (y ∷ xs) (s ∷ ss) (suc place) x each at = zip_slot xs ss place x each.1 at

  zip_item : (xs : List X) (ss : List ℕ) (place s : ℕ) → AllZip R xs ss → slice_get ss place ≡ Some s → (x : X) × (slice_get xs place ≡ Some x) × R x s
  zip_item xs [] place s each at = absurd cc
  zip_item [] (t ∷ ss) place s each at = absurd each
  zip_item (y ∷ xs) (t ∷ ss) zero s each at = (y, refl, subst (λ u. R y u) (same_Some t s at) each.0)
  zip_item (y ∷ xs) (t ∷ ss) (suc place) s each at = zip_item xs ss place s each.1 at

-- What is placed.

module _ {X : Type 0} (slotted placed : List X) (slots : List ℕ) (are : ArePlaced slotted placed slots) where
  abbrev Stands : X → ℕ → Type 0
  Stands x s = slice_get slotted s ≡ Some x

  pub slots_length : length slots ≡ length placed
  slots_length = zip_length Stands placed slots are.each

  slots_below : (i s : ℕ) → slice_get slots i ≡ Some s → s < length slotted
  slots_below i s at = let item = zip_item Stands placed slots i s are.each at in slice_get_within slotted s item.0 item.2

  -- each item is in a slot, and each slot has the item of a place
  item_slotted : (k : ℕ) (x : X) → slice_get placed k ≡ Some x → (s : ℕ) × (slice_get slotted s ≡ Some x)
  item_slotted k x at = let slot = zip_slot Stands placed slots k x are.each at in (slot.0, slot.2)

  item_placed : (s : ℕ) (x : X) → slice_get slotted s ≡ Some x → (k : ℕ) × (slice_get placed k ≡ Some x)
  item_placed s x at =
      let long = slots_length in
      let all = are.all in
      let place = place_of_slot slots (length slotted) (omega (arith, long, all)) slots_below are.differ s (slice_get_within slotted s x at) in
      let item = zip_item Stands placed slots place.0 s are.each place.1 in
      (place.0, item.1 ∙ (sym item.2 ∙ at))

  -- so what holds of all, or of some, in one order does in the other
  pub all_slotted : (P : X → Type 0) → All P placed → All P slotted
  all_slotted P each k d within =
      let place = item_placed k (get_or slotted k d) (slice_get-get_or slotted k d within) in
      subst P (get_or_from_slice_get placed place.0 (get_or slotted k d) d place.1)
      (each place.0 d (slice_get_within placed place.0 (get_or slotted k d) place.1))

  pub any_placed : (P : X → Type 0) → Any P slotted → Any P placed
  any_placed P (k, x, within, at, holds) =
      let place = item_placed k x (slice_get-get_or slotted k x within ∙ ap (λ z. Some z) at) in
      (place.0, x, slice_get_within placed place.0 x place.1, get_or_from_slice_get placed place.0 x x place.1, holds)

  pub any_slotted : (P : X → Type 0) → Any P placed → Any P slotted
  any_slotted P (k, x, within, at, holds) =
      let slot = item_slotted k x (slice_get-get_or placed k x within ∙ ap (λ z. Some z) at) in
      (slot.0, x, slice_get_within slotted slot.0 x slot.1, get_or_from_slice_get slotted slot.0 x x slot.1, holds)

  module _ (place slot : ℕ) (at : slice_get slots place ≡ Some slot) where
    pub slot_within : slot < length slotted
    slot_within = slots_below place slot at

    place_within : place < length placed
    place_within = let item = zip_item Stands placed slots place slot are.each at in slice_get_within placed place item.0 item.1

    -- the item of a place is in its slot
    pub same_item : at_place slot slotted ≡ at_place place placed
    same_item =
        let item = zip_item Stands placed slots place slot are.each at in
        item_at slotted slot item.0 item.2 ∙ sym (item_at placed place item.0 item.1)

    -- an item in place of another
    pub placed_put : (x : X) → ArePlaced (replaced slot (x ∷ []) slotted) (replaced place (x ∷ []) placed) slots
    placed_put x =
        let below = slot_within in record {
          all = put_length slotted slot x below ∙ (are.all ∙ sym (put_length placed place x place_within));
          each = zip_put Stands (λ y s. slice_get (replaced slot (x ∷ []) slotted) s ≡ Some y) slot (λ y s other is. put_elsewhere slotted slot s x y other is)
              place placed slots x (put_here slotted slot x (omega (arith, below))) are.each are.differ at;
          differ = are.differ;
        }

    -- an item taken out
    pub placed_taken : (last : ℕ) → length slotted ≡ suc last
        → ArePlaced (removed slot slotted) (replaced place [] placed) (map (renamed last slot) (remove slots place))
    placed_taken last all =
        let below = slot_within in
        let inside = place_within in
        let same = are.all in
        let within : slot ≤ last = omega (arith, below, all) in
        let none = others slot slots place are.differ at in record {
          all = removed_length slotted slot last all within ∙ sym (taken_length placed place last (sym same ∙ all) (omega (arith, inside, same, all)));
          each = zip_map Left (λ y s. slice_get (removed slot slotted) s ≡ Some y) (renamed last slot) (moved within)
              (replaced place [] placed) (remove slots place)
              (zip_taken Stands Left slot (λ y s other is. (other, is)) place placed slots are.each are.differ at);
          differ = differ_renamed last slot (remove slots place) none (differ_taken slots place are.differ);
        }
      where
        Left : X → ℕ → Type 0
        Left y s = (s ≢ slot) × (slice_get slotted s ≡ Some y)

        moved : slot ≤ last → (y : X) (s : ℕ) → Left y s → slice_get (removed slot slotted) (renamed last slot s) ≡ Some y
        moved within y s (other, is) = elim (eqb_tells s last) [
          | inl same ↦
              let before : slot < last = let near = λ (e : slot ≡ last). other (same.1 ∙ sym e) in omega (arith, within, near) in
              subst (λ t. slice_get (removed slot slotted) t ≡ Some y) (sym (renamed_last last slot s same.1))
              (removed_here slotted slot last all within before y (subst (λ t. slice_get slotted t ≡ Some y) same.1 is))
          | inr differs ↦
              let less = slice_get_within slotted s y is in
              subst (λ t. slice_get (removed slot slotted) t ≡ Some y) (sym (renamed_other last slot s differs.1))
              (removed_elsewhere slotted slot last all within s y other (let unequal = differs.1 in omega (arith, less, all, unequal)) is)
        ]

  -- an item after the last
  pub placed_more : (n : ℕ) → n ≡ length placed → (x : X) → ArePlaced (replaced n (x ∷ []) slotted) (replaced n (x ∷ []) placed) (slots ++ n ∷ [])
  placed_more n is x =
      let same = are.all in
      let first = put_last slotted n x (same ∙ sym is) in
      let second = put_last placed n x (sym is) in
      subst (λ l. ArePlaced l (replaced n (x ∷ []) placed) (slots ++ n ∷ [])) (sym first)
      (subst (λ l. ArePlaced (slotted ++ x ∷ []) l (slots ++ n ∷ [])) (sym second) record {
        all = let left = length-append slotted (x ∷ []) in let right = length-append placed (x ∷ []) in omega (arith, same, left, right);
        each = zip_more Stands (λ y s. slice_get (slotted ++ x ∷ []) s ≡ Some y)
            (λ y s there. before slotted s y there) placed slots x n are.each (behind slotted n (same ∙ sym is));
        differ = differ_more slots n (λ i s at. let below = slots_below i s at in omega (arith, below, same, is)) are.differ;
      })
    where
      before : (xs : List X) (s : ℕ) (y : X) → slice_get xs s ≡ Some y → slice_get (xs ++ x ∷ []) s ≡ Some y
      before [] s y at = absurd cc
      before (z ∷ xs) zero y at = at
      before (z ∷ xs) (suc s) y at = before xs s y at

      behind : (xs : List X) (m : ℕ) → length xs ≡ m → slice_get (xs ++ x ∷ []) m ≡ Some x
      behind [] zero all = refl
      behind [] (suc m) all = absurd (omega (arith, all))
      behind (z ∷ xs) zero all = absurd (omega (arith, all))
      behind (z ∷ xs) (suc m) all = behind xs m (omega (arith, all))

-- the items in the order of the slots
module _ {X : Type 0} where
  in_turn : (front : List X) (xs : List X) (n : ℕ) → length front ≡ n → AllZip (λ x s. slice_get (front ++ xs) s ≡ Some x) xs (range_with_len n (length xs))
  in_turn front [] n is = tt
  in_turn front (x ∷ xs) n is = (
    here front n is,
    subst (λ l. AllZip (λ y s. slice_get l s ≡ Some y) xs (range_with_len (n + 1) (length xs))) (joined front)
        (in_turn (front ++ x ∷ []) xs (n + 1) (let long = length-append front (x ∷ []) in omega (arith, long, is))),
  )
    where
      here : (ys : List X) (m : ℕ) → length ys ≡ m → slice_get (ys ++ x ∷ xs) m ≡ Some x
      here [] zero all = refl
      here [] (suc m) all = absurd (omega (arith, all))
      here (z ∷ ys) zero all = absurd (omega (arith, all))
      here (z ∷ ys) (suc m) all = here ys m (omega (arith, all))

      joined : (ys : List X) → (ys ++ x ∷ []) ++ xs ≡ ys ++ x ∷ xs
      joined [] = refl
      joined (z ∷ ys) = ap (λ l. z ∷ l) (joined ys)

  pub placed_in_turn : (xs : List X) → ArePlaced xs xs (range_with_len 0 (length xs))
  placed_in_turn xs = record { all = refl; each = in_turn [] xs 0 refl; differ = range_differs 0 (length xs) }
