-- Choices by a test of packets that are written first.
use Rattle.std.proofs.Common.{ℕ, ◌≡◌, ◌∙◌, ◌<◌, Bool, true, false, List, None, Some, length, if◌then◌else◌, refl, sym, ap, subst, arith}
use Rattle.std.specs.Prelude.{slice_get}
use Rattle.std.proofs.lemmas.Option.{slice_get_within}
use Rattle.pq_fields.specs.declared.field.Field.{Field}
use Rattle.pq_fields.specs.Packet.{Numbers, has_field}
use Rattle.pq_fields.specs.Writes.{Written, written_in}
use Rattle.pq_store.specs.declared.test.Test.{Test}
use Rattle.pq_store.specs.declared.test.Test.TheVariants.{Equal, Bit}
use Rattle.pq_store.specs.Test.{IsLawful, field_of, passes}
use Rattle.pq_store.specs.Tree.{Tree, value}
use Rattle.pq_store.specs.Tree.Tree.{Fork, Tip}
use Rattle.pq_store.specs.Diagram.{HasEqualSides, SkipsBelow}
use Rattle.pq_store.specs.Store.{HasAt, IsJoinable, Keeps}
use Rattle.pq_lists.proofs.Places.{at_place}
use Rattle.pq_store.specs.Room.{Within}
use Rattle.pq_store.proofs.RoomLemmas.{fork_within, room_for, roomy, tip_within}
use Rattle.pq_apply.specs.Restricting.{decides}
use Rattle.pq_apply.proofs.AtomTrees.{counts_one, said_itself}
use Rattle.pq_rewrite.specs.Choices.{ChoosesByAt, FitByAt, field_needs, passes_after, test_needs}
use Rattle.pq_rewrite.proofs.Choosing.{IsCondition, chooses_same}
use Rattle.pq_rewrite.proofs.Numbers.{passes_unwritten, passes_written}

-- the diagram of a test
abbrev pub test_tree : Test → Tree Bool
test_tree t = Fork t (Tip true) (Tip false)

-- a lawful test may be before two leaves
pub leaves_join : (t : Test) → IsLawful t → IsJoinable t (Tip true) (Tip false)
leaves_join t lawful = record {
  lawful = lawful;
  before_yes = tt;
  before_no = tt;
  once = once t;
  fits = λ f. omega (arith, counts_one f t, roomy f);
}
  where
    once : (s : Test) → SkipsBelow {L = Bool} s (Tip true)
    once (Equal f n) = tt
    once (Bit f i) = tt

-- the two differ
pub leaves_differ : (t : Test) → HasEqualSides t (Tip true) (Tip false) → ⊥
leaves_differ (Equal f n) same = absurd cc
leaves_differ (Bit f i) same = absurd cc

-- the diagram of a test says whether a packet passes it, and tests nothing else
pub passing_condition : (w : Written) (t : Test) (cs : List (Tree Bool)) (k : ℕ) → slice_get cs k ≡ Some (test_tree t)
    → HasAt (IsCondition (passes t) (test_needs w t)) cs k
passing_condition w t cs k is = (
  test_tree t,
  is,
  record {
    tells = λ x fit. said_itself (passes t x);
    tests = λ ns needs. fork_within ns t (Tip true) (Tip false) needs.0 (tip_within ns true) (tip_within ns false);
  },
)

module _ {L : Type 0} where
  -- the tree at the place of one of two sides
  pub side_is : (b : Bool) (ts : List (Tree L)) (i j k : ℕ) (y n : Tree L) → slice_get ts i ≡ Some y → slice_get ts j ≡ Some n → k ≡ (if b then i else j)
      → slice_get ts k ≡ Some (if b then y else n)
  side_is true ts i j k y n y_is n_is is = ap (slice_get ts) is ∙ y_is
  side_is false ts i j k y n y_is n_is is = ap (slice_get ts) is ∙ n_is

  -- it tests only what both may test
  side_within : (b : Bool) (ns : Field → List ℕ) (y n : Tree L) → Within ns y → Within ns n → Within ns (if b then y else n)
  side_within true ns y n left right = left
  side_within false ns y n left right = right

  -- a choice by the test and one by presence make one by the test of packets that are written first
  both_choices : (has b p : Bool) (l r : L) → (if has then (if b then l else r) else (if p then l else r)) ≡ (if (if has then b else p) then l else r)
  both_choices true true p l r = refl
  both_choices true false p l r = refl
  both_choices false b p l r = refl

  -- the value of one of two trees
  side_value : (b : Bool) (y n : Tree L) (x : Numbers) → value (if b then y else n) x ≡ (if b then value y x else value n x)
  side_value true y n x = refl
  side_value false y n x = refl

module _ {L : Type 0} (w : Written) (t : Test) where
  -- the choice by a test that isn't written is that by the test of packets that are written first
  pub unwritten_chosen : (old new : List (Tree L)) (i j id : ℕ) → written_in (field_of t) w ≡ None
      → ChoosesByAt (passes t) (test_needs w t) old i j new id → ChoosesByAt (passes_after w t) (test_needs w t) old i j new id
  unwritten_chosen old new i j id none chooses =
      chooses_same (passes t) (test_needs w t) (passes_after w t) old new i j id (λ x. sym (passes_unwritten t w x none)) chooses

module _ {L : Type 0} (w : Written) (t : Test) (n : ℕ) (written : written_in (field_of t) w ≡ Some n) where
  -- the one side and the choice by the test are within the store
  pub passed_within : (old mid : List (Tree L)) (i j side unwritten : ℕ) → side ≡ (if decides t n then i else j) → Keeps old mid
      → i < length old → j < length old
      → ChoosesByAt (passes t) (test_needs w t) old i j mid unwritten → (side < length mid) × (unwritten < length mid)
  passed_within old mid i j side unwritten is keeps i_within j_within chooses =
      let b = decides t n in
      let left_at = at_place old i i_within in
      let right_at = at_place old j j_within in
      let chosen = chooses left_at.0 right_at.0 left_at.1 right_at.1 in (
        slice_get_within mid side (if b then left_at.0 else right_at.0)
            (side_is b mid i j side left_at.0 right_at.0 (keeps i left_at.0 left_at.1) (keeps j right_at.0 right_at.1) is),
        slice_get_within mid unwritten chosen.0 chosen.1,
      )

  -- they may come together with the numbers of prerequisites
  pub passed_fit : (old mid : List (Tree L)) (i j side unwritten : ℕ) → side ≡ (if decides t n then i else j) → Keeps old mid → i < length old → j < length old
      → FitByAt (test_needs w t) old i j → ChoosesByAt (passes t) (test_needs w t) old i j mid unwritten → FitByAt (field_needs (field_of t)) mid side unwritten
  passed_fit old mid i j side unwritten is keeps i_within j_within fits chooses u r u_is r_is =
      let left_at = at_place old i i_within in
      let right_at = at_place old j j_within in
      let chosen = chooses left_at.0 right_at.0 left_at.1 right_at.1 in
      let there = chosen.1 in
      let choice = chosen.2 in
      let here = side_is (decides t n) mid i j side left_at.0 right_at.0 (keeps i left_at.0 left_at.1) (keeps j right_at.0 right_at.1) is in
      let u_same : (if decides t n then left_at.0 else right_at.0) ≡ u = cc in
      let r_same : chosen.0 ≡ r = cc in
      room_for (λ ns within. (
        within.0.1 n written,
        subst (Within ns) u_same (side_within (decides t n) ns left_at.0 right_at.0 within.1 within.2),
        subst (Within ns) r_same (choice.tests ns within.0 within.1 within.2),
      )) (fits left_at.0 right_at.0 left_at.1 right_at.1)

  -- and the choice of them by presence is that by the test of packets that are written first
  pub passed_chosen : (old mid new : List (Tree L)) (i j side unwritten id : ℕ) → side ≡ (if decides t n then i else j) → Keeps old mid
      → ChoosesByAt (passes t) (test_needs w t) old i j mid unwritten
      → ChoosesByAt (has_field (field_of t)) (field_needs (field_of t)) mid side unwritten new id
      → ChoosesByAt (passes_after w t) (test_needs w t) old i j new id
  passed_chosen old mid new i j side unwritten id is keeps chooses present left_tree right_tree left_is right_is =
      let b = decides t n in
      let chosen = chooses left_tree right_tree left_is right_is in
      let choice = chosen.2 in
      let here = side_is b mid i j side left_tree right_tree (keeps i left_tree left_is) (keeps j right_tree right_is) is in
      let made = present (if b then left_tree else right_tree) chosen.0 here chosen.1 in
      let by = made.2 in (
        made.0,
        made.1,
        record {
          gives = λ x fit.
              by.gives x fit
              ∙ ((λ k. if has_field (field_of t) x then side_value b left_tree right_tree x k else choice.gives x fit k)
              ∙ (both_choices (has_field (field_of t) x) b (passes t x) (value left_tree x) (value right_tree x)
              ∙ ap (λ a. if a then value left_tree x else value right_tree x) (sym (passes_written t w n x written))));
          tests = λ ns needs left right. by.tests ns (needs.1 n written) (side_within b ns left_tree right_tree left right) (choice.tests ns needs left right);
        },
      )

-- where every packet has the field, the number answers the test
pub known_answer : (w : Written) (t : Test) (n : ℕ) → written_in (field_of t) w ≡ Some n → ((x : Numbers) → has_field (field_of t) x ≡ true)
    → (x : Numbers) → passes_after w t x ≡ decides t n
known_answer w t n written has x = passes_written t w n x written ∙ ap (λ b. if b then decides t n else passes t x) (has x)
