-- Choices by whether a packet has a field with another number.
use Rattle.std.proofs.Common.{ℕ, ◌<◌, ◌≡◌, ◌∙◌, Bool, true, false, not, List, Some, length, if◌then◌else◌, refl, sym, ap, subst}
use Rattle.std.specs.Prelude.{◌==◌, ◌&&◌, slice_get}
use Rattle.pq_fields.specs.declared.field.Field.{Field}
use Rattle.pq_fields.specs.declared.pred.Pred.TheVariants as pred
use Rattle.pq_fields.specs.declared.pred.Pred.TheOpen.{Pred-F}
use Rattle.pq_fields.specs.declared.pred.Pred.TheFolds.{fold-roll-Pred}
use Rattle.pq_fields.specs.Packet.{Numbers, has_field, number_in}
use Rattle.pq_fields.specs.Pred.{PredTree, holds, leaf, pred_step, pred_tree}
use Rattle.pq_fields.specs.Pred.PredTop.{Equals}
use Rattle.pq_store.specs.Tree.{Tree, value}
use Rattle.pq_store.specs.Store.{HasAt, Keeps}
use Rattle.pq_lists.proofs.Places.{at_place}
use Rattle.pq_store.specs.Room.{Within}
use Rattle.pq_store.proofs.RoomLemmas.{room_for}
use Rattle.pq_apply.specs.Predicates.{HoldsAt, IsPredWithin}
use Rattle.pq_apply.proofs.Kept.{tree_before}
use Rattle.pq_rewrite.specs.Choices.{ChoosesByAt, FitByAt, IsChoiceBy, change_needs, differs, field_needs}
use Rattle.pq_rewrite.proofs.Choosing.{IsCondition, predicate_condition}

-- the packet has the field, with this number
abbrev pub has_number : Field → ℕ → Numbers → Bool
has_number f n x = has_field f x && (number_in f x == n)

-- the predicate that says so
abbrev pub equal_tree : Field → ℕ → PredTree
equal_tree f n = pred_tree (pred.Equal f n)

-- as plain data it is a leaf
equal_is : (f : Field) (n : ℕ) → leaf (Equals f n) ≡ equal_tree f n
equal_is f n = sym (ap pred_tree (sym (pred.rolls-Equal f n)) ∙ fold-roll-Pred PredTree pred_step (Pred-F.Equal f n))

-- it has only the number, and those in prerequisites
pub equal_within : (f : Field) (n : ℕ) (ns : Field → List ℕ) → change_needs f n ns → IsPredWithin ns (equal_tree f n)
equal_within f n ns needs = subst (IsPredWithin ns) (equal_is f n) (needs, tt, tt)

-- its diagram says so
pub equal_condition : (f : Field) (n : ℕ) (cs : List (Tree Bool)) (k : ℕ) → HoldsAt (equal_tree f n) cs k
    → HasAt (IsCondition (has_number f n) (change_needs f n)) cs k
equal_condition f n cs k =
    predicate_condition (has_number f n) (change_needs f n) (equal_tree f n) cs k
    (λ x. ap (λ p. holds p x) (sym (equal_is f n))) (equal_within f n)

-- a number that a packet has is another, or it is this one
two_choices : {A : Type 0} (has same : Bool) (a b : A) → (if has then (if has && same then b else a) else b) ≡ (if has && not same then a else b)
two_choices true true a b = refl
two_choices true false a b = refl
two_choices false same a b = refl

module _ {L : Type 0} where
  -- trees that may come together may do so the other way round
  pub fit_swapped : (Needs : (Field → List ℕ) → Type 0) (ts : List (Tree L)) (i j : ℕ) → FitByAt Needs ts i j → FitByAt Needs ts j i
  fit_swapped Needs ts i j fits n y n_is y_is = room_for (λ ns within. (within.0, within.2, within.1)) (fits y n y_is n_is)

  -- a choice has only such numbers as may come together with those of the second tree
  pub choice_fits : (f : Field) (n : ℕ) (old new : List (Tree L)) (i j id : ℕ) → i < length old → j < length old → Keeps old new
      → FitByAt (change_needs f n) old i j → ChoosesByAt (has_number f n) (change_needs f n) old j i new id → FitByAt (field_needs f) new id j
  choice_fits f n old new i j id i_within j_within keeps fits chooses chosen other chosen_is other_is =
      let first = at_place old i i_within in
      let was : slice_get old j ≡ Some other = tree_before old new j other keeps j_within other_is in
      let made = chooses other first.0 was first.1 in
      let choice = made.2 in
      let there = made.1 in
      let is : made.0 ≡ chosen = cc in
      room_for (λ ns within. (within.0.1, subst (Within ns) is (choice.tests ns within.0 within.2 within.1), within.2)) (fits first.0 other first.1 was)

  -- where packets have the field and not this number the first tree is chosen, else the second
  choices_joined : (f : Field) (n : ℕ) (y o m r : Tree L) → IsChoiceBy (has_number f n) (change_needs f n) o y m
      → IsChoiceBy (has_field f) (field_needs f) m o r
      → IsChoiceBy (differs f n) (change_needs f n) y o r
  choices_joined f n y o m r inner outer = record {
    gives = λ x fit.
        outer.gives x fit
        ∙ (ap (λ v. if has_field f x then v else value o x) (inner.gives x fit) ∙ two_choices (has_field f x) (number_in f x == n) (value y x) (value o x));
    tests = λ ns needs left right. outer.tests ns needs.1 (inner.tests ns needs right left) right;
  }

  -- and so at their places
  pub chooses_changed : (f : Field) (n : ℕ) (old mid new : List (Tree L)) (i j k id : ℕ) → Keeps old mid
      → ChoosesByAt (has_number f n) (change_needs f n) old j i mid k → ChoosesByAt (has_field f) (field_needs f) mid k j new id
      → ChoosesByAt (differs f n) (change_needs f n) old i j new id
  chooses_changed f n old mid new i j k id keeps first second y o y_is o_is =
      let inner = first o y o_is y_is in
      let outer = second inner.0 o inner.1 (keeps j o o_is) in
      (outer.0, outer.1, choices_joined f n y o inner.0 outer.0 inner.2 outer.2)
