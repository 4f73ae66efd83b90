-- Diagrams on packets that are written first, step by step.
use Rattle.std.proofs.Common.{ℕ, ◌<◌, ◌==◌, ◌≡◌, ◌∙◌, Bool, true, false, List, Some, if◌then◌else◌, refl, sym, ap, subst, inl, inr, eqb-true, arith}
use Rattle.std.specs.Prelude.{slice_get}
use Rattle.indexmap.specs.IndexMap.{IndexMap, Updates}
use Rattle.pq_fields.specs.declared.field.Field.{Field}
use Rattle.pq_fields.specs.Packet.{Numbers}
use Rattle.pq_fields.specs.Writes.{Written, on}
use Rattle.pq_store.specs.declared.test.Test.{Test}
use Rattle.pq_store.specs.declared.test.Test.TheVariants.{Equal, Bit}
use Rattle.pq_store.specs.Test.{field_of, passes}
use Rattle.pq_store.specs.Tree.{Tree, value, IsTested}
use Rattle.pq_store.specs.Tree.Tree.{Fork, Tip}
use Rattle.pq_store.specs.Store.{Keeps, ShowsBranch}
use Rattle.pq_store.specs.Room.{IsTestWithin, Within}
use Rattle.pq_store.proofs.RoomLemmas.{room_for}
use Rattle.pq_apply.specs.Memo.{Remembers}
use Rattle.pq_apply.proofs.Remembered.{remembers_more, remembers_still}
use Rattle.pq_apply.proofs.Restricted.{side_at, side_part}
use Rattle.pq_rewrite.specs.Calls.{ComesAfterAt, FitsAfter, FitsAfterAt, IsAfter, NeedsOf}
use Rattle.pq_rewrite.specs.Choices.{ChoosesByAt, FitByAt, IsStepAt, IsToldAt, passes_after, test_needs}
use Rattle.pq_rewrite.specs.declared.written.Step.TheVariants.{Side}

module _ {L : Type 0} where
  -- what is told stays told
  pub told_still : (w : Written) (from old new : List (Tree L)) (k id : ℕ) → Keeps old new → IsToldAt w from k old id → IsToldAt w from k new id
  told_still w from old new k id keeps h =
      record { tree = h.tree; told = h.told; tree_is = h.tree_is; told_is = keeps id h.told h.told_is; comes = h.comes }

  -- what is told of a place comes after the writes of the tree there
  pub told_tree : (w : Written) (from into : List (Tree L)) (k id : ℕ) → IsToldAt w from k into id → ComesAfterAt w from k into id
  told_tree w from into k id h t t_is =
      let tree_is = h.tree_is in
      let same : h.tree ≡ t = cc in
      (h.told, h.told_is, subst (λ u. IsAfter w u h.told) same h.comes)

  -- a leaf is told by an equal one
  pub told_leaf : (w : Written) (from into : List (Tree L)) (k id : ℕ) (l m : L) → slice_get from k ≡ Some (Tip l)
      → slice_get into id ≡ Some (Tip m) → m ≡ l → IsToldAt w from k into id
  told_leaf w from into k id l m tree_is told_is same = record {
    tree = Tip l;
    told = Tip m;
    tree_is = tree_is;
    told_is = told_is;
    comes = record { gives = λ x fit. same; tests = λ ns within needs f v tested. absurd tested };
  }

  -- a side says what the whole says of packets that give its answer
  side_says : (answer : Bool) (t : Test) (y n u : Tree L) (x : Numbers) → u ≡ (if answer then y else n) → passes t x ≡ answer → value u x ≡ value (Fork t y n) x
  side_says true t y n u x is passed = ap (λ v. value v x) is ∙ ap (λ b. if b then value y x else value n x) (sym passed)
  side_says false t y n u x is failed = ap (λ v. value v x) is ∙ ap (λ b. if b then value y x else value n x) (sym failed)

  -- where only one side is reached, what is told of it is told of the whole
  pub told_side : (w : Written) (from into : List (Tree L)) (k next id : ℕ) → IsStepAt w from k (Side next) → IsToldAt w from next into id
      → IsToldAt w from k into id
  told_side w from into k next id step done =
      let t = step.0 in
      let shows = step.3 in
      let answer = step.4 in
      let y = shows.yes_tree in
      let n = shows.no_tree in
      let comes = done.comes in
      let is = side_at answer from step.1 step.2 next y n done.tree shows.yes_is shows.no_is step.6 done.tree_is in
      let part = side_part answer t y n done.tree is in
      record {
        tree = Fork t y n;
        told = done.told;
        tree_is = shows.is;
        told_is = done.told_is;
        comes = record {
          gives = λ x fit. comes.gives x fit ∙ side_says answer t y n done.tree (on w x) is (step.5 x);
          tests = λ ns within needs. comes.tests ns (λ f v tested. within f v (part.0 (Equal f v) tested)) needs;
        };
      }

  -- the side lies below its node
  pub side_below : (w : Written) (from : List (Tree L)) (k next : ℕ) → IsStepAt w from k (Side next) → next < k
  side_below w from k next step = let shows = step.3 in by step.4 step.6 shows.yes_below shows.no_below
    where
      by : (answer : Bool) {i j : ℕ} → next ≡ (if answer then i else j) → i < k → j < k → next < k
      by true is yes_below no_below = omega arith
      by false is yes_below no_below = omega arith

  -- trees of the tests of one that fits fit too
  part_fits : (w : Written) (t u : Tree L) → ((s : Test) → IsTested s u → IsTested s t) → FitsAfter w t → FitsAfter w u
  part_fits w t u part = room_for (λ ns within. (λ f v tested. within.0 f v (part (Equal f v) tested), within.1))

  -- so the side that is reached fits
  pub side_fits : (w : Written) (from : List (Tree L)) (k next : ℕ) → IsStepAt w from k (Side next) → FitsAfterAt w from k → FitsAfterAt w from next
  side_fits w from k next step fits u u_is =
      let t = step.0 in
      let shows = step.3 in
      let y = shows.yes_tree in
      let n = shows.no_tree in
      let is = side_at step.4 from step.1 step.2 next y n u shows.yes_is shows.no_is step.6 u_is in
      part_fits w (Fork t y n) u (side_part step.4 t y n u is).0 (fits (Fork t y n) shows.is)

  -- and both sides do
  pub both_fit : (w : Written) (from : List (Tree L)) (k i j : ℕ) (t : Test) → ShowsBranch from k t i j → FitsAfterAt w from k
      → FitsAfterAt w from i × FitsAfterAt w from j
  both_fit w from k i j t shows fits =
      let y = shows.yes_tree in
      let n = shows.no_tree in
      let fit = fits (Fork t y n) shows.is in (
        λ u u_is. part_fits w (Fork t y n) u (side_part true t y n u (side_at true from i j i y n u shows.yes_is shows.no_is refl u_is)).0 fit,
        λ u u_is. part_fits w (Fork t y n) u (side_part false t y n u (side_at false from i j j y n u shows.yes_is shows.no_is refl u_is)).0 fit,
      )

  -- what is told of both sides comes after the writes of the sides
  record AreSidesTold (w : Written) (y n a b : Tree L) : Type 0 where
    left : IsAfter w y a
    right : IsAfter w n b

  -- the trees at places are such
  sides_told : (w : Written) (from into : List (Tree L)) (k i j a b : ℕ) (t : Test) (u v : Tree L) → (shows : ShowsBranch from k t i j)
      → IsToldAt w from i into a → IsToldAt w from j into b → slice_get into a ≡ Some u → slice_get into b ≡ Some v
      → AreSidesTold w shows.yes_tree shows.no_tree u v
  sides_told w from into k i j a b t u v shows left right u_is v_is =
      let y = shows.yes_tree in
      let n = shows.no_tree in
      let y_is = shows.yes_is in
      let n_is = shows.no_is in
      let left_tree = left.tree_is in
      let right_tree = right.tree_is in
      let left_told = left.told_is in
      let right_told = right.told_is in
      let y_same : left.tree ≡ y = cc in
      let n_same : right.tree ≡ n = cc in
      let u_same : left.told ≡ u = cc in
      let v_same : right.told ≡ v = cc in
      record {
        left = subst (λ q. IsAfter w q u) y_same (subst (IsAfter w left.tree) u_same left.comes);
        right = subst (λ q. IsAfter w q v) n_same (subst (IsAfter w right.tree) v_same right.comes);
      }

  -- the numbers of a fork have those of its test
  pub test_within : (ns : Field → List ℕ) (t : Test) (y n : Tree L) → Within ns (Fork t y n) → IsTestWithin ns t
  test_within ns (Equal f v) y n within = within f v (inl refl)
  test_within ns (Bit f i) y n within = tt

  -- so what a choice by it needs is among them
  test_needed : (ns : Field → List ℕ) (w : Written) (t : Test) (y n : Tree L) → Within ns (Fork t y n) → NeedsOf ns w → test_needs w t ns
  test_needed ns w t y n within needs = (test_within ns t y n within, λ m written. needs (field_of t) m written)

  -- they have those of the yes side
  yes_within : (ns : Field → List ℕ) (t : Test) (y n : Tree L) → Within ns (Fork t y n) → Within ns y
  yes_within ns t y n within f v tested = within f v (inr (inl tested))

  -- and those of the no side
  no_within : (ns : Field → List ℕ) (t : Test) (y n : Tree L) → Within ns (Fork t y n) → Within ns n
  no_within ns t y n within f v tested = within f v (inr (inr tested))

  -- what is told of both sides may be chosen from
  pub told_fit : (w : Written) (from into : List (Tree L)) (k i j a b : ℕ) (t : Test) → ShowsBranch from k t i j → FitsAfterAt w from k
      → IsToldAt w from i into a → IsToldAt w from j into b → FitByAt (test_needs w t) into a b
  told_fit w from into k i j a b t shows fits left right u v u_is v_is =
      let y = shows.yes_tree in
      let n = shows.no_tree in
      let sides = sides_told w from into k i j a b t u v shows left right u_is v_is in
      let yes_after = sides.left in
      let no_after = sides.right in
      room_for (λ ns within. (
        test_needed ns w t y n within.0 within.1,
        yes_after.tests ns (yes_within ns t y n within.0) within.1,
        no_after.tests ns (no_within ns t y n within.0) within.1,
      )) (fits (Fork t y n) shows.is)

  -- the choice of them is told of the whole
  pub told_both : (w : Written) (from into new : List (Tree L)) (k i j a b id : ℕ) (t : Test) → ShowsBranch from k t i j
      → IsToldAt w from i into a → IsToldAt w from j into b → ChoosesByAt (passes_after w t) (test_needs w t) into a b new id → IsToldAt w from k new id
  told_both w from into new k i j a b id t shows left right chooses =
      let y = shows.yes_tree in
      let n = shows.no_tree in
      let u = left.told in
      let v = right.told in
      let made = chooses u v left.told_is right.told_is in
      let choice = made.2 in
      let sides = sides_told w from into k i j a b t u v shows left right left.told_is right.told_is in
      let yes_after = sides.left in
      let no_after = sides.right in
      record {
        tree = Fork t y n;
        told = made.0;
        tree_is = shows.is;
        told_is = made.1;
        comes = record {
          gives = λ x fit. choice.gives x fit ∙ (λ m. if passes_after w t x then yes_after.gives x fit m else no_after.gives x fit m);
          tests = λ ns within needs.
              choice.tests ns (test_needed ns w t y n within needs) (yes_after.tests ns (yes_within ns t y n within) needs)
              (no_after.tests ns (no_within ns t y n within) needs);
        };
      }

  -- what is remembered stays told, and one more is remembered
  pub remembers_told : {S : Type 0} (w : Written) (from old new : List (Tree L)) (k id : ℕ) (old_done new_done : IndexMap ℕ ℕ S) → Keeps old new
      → Remembers (λ x y. x == y) (λ key i. IsToldAt w from key old i) old_done → IsToldAt w from k new id
      → Updates (λ x y. x == y) old_done new_done k (Some id)
      → Remembers (λ x y. x == y) (λ key i. IsToldAt w from key new i) new_done
  remembers_told w from old new k id old_done new_done keeps remembers made updates =
      remembers_more (λ x y. x == y) (λ key i. IsToldAt w from key new i) old_done new_done k id (λ x y same. eqb-true x y same)
      (remembers_still (λ x y. x == y) (λ key i. IsToldAt w from key old i) (λ key i. IsToldAt w from key new i) old_done
      (λ key i h. told_still w from old new key i keeps h) remembers) made updates
