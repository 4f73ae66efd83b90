-- Choices by a condition's diagram, as choices by what holds of a packet.
use Rattle.std.proofs.Common.{ℕ, ◌<◌, ◌≡◌, ◌∙◌, Bool, List, length, if◌then◌else◌, ap, subst, inl, inr}
use Rattle.pq_fields.specs.declared.field.Field.{Field}
use Rattle.pq_fields.specs.Packet.{Numbers, Fit}
use Rattle.pq_fields.specs.Pred.{PredTree, holds}
use Rattle.pq_store.specs.declared.test.Test.TheVariants.{Equal}
use Rattle.pq_store.specs.Tree.{Tree, value}
use Rattle.pq_lists.proofs.Places.{at_place}
use Rattle.pq_store.specs.Store.{HasAt}
use Rattle.pq_store.specs.Room.{Within}
use Rattle.pq_store.proofs.RoomLemmas.{room_for}
use Rattle.pq_apply.specs.Choice.{ChoosesAt, FitAsChoiceAt, IsChoice}
use Rattle.pq_apply.specs.Predicates.{FitsAsNode, HoldsAt, IsPredWithin}
use Rattle.pq_rewrite.specs.Choices.{ChoosesByAt, FitByAt, IsChoiceBy}

-- the tree says whether this holds of a packet, and tests only what has to be
pub record IsCondition (c : Numbers → Bool) (Needs : (Field → List ℕ) → Type 0) (t : Tree Bool) : Type 0 where
  pub tells : (x : Numbers) → Fit x → value t x ≡ c x
  pub tests : (ns : Field → List ℕ) → Needs ns → Within ns t

module _ (c : Numbers → Bool) (Needs : (Field → List ℕ) → Type 0) where
  -- a predicate that says it, and has only such numbers, has such a diagram
  pub predicate_condition : (p : PredTree) (cs : List (Tree Bool)) (k : ℕ) → ((x : Numbers) → holds p x ≡ c x)
      → ((ns : Field → List ℕ) → Needs ns → IsPredWithin ns p) → HoldsAt p cs k → HasAt (IsCondition c Needs) cs k
  predicate_condition p cs k tells within at =
      let is = at.2 in
      (at.0, at.1, record { tells = λ x fit. is.gives x fit ∙ tells x; tests = λ ns needs. is.tests ns (within ns needs) })

module _ {L : Type 0} (c : Numbers → Bool) (Needs : (Field → List ℕ) → Type 0) where
  -- a choice by its diagram is one by what holds of a packet
  chosen_by : (t : Tree Bool) (y n r : Tree L) → IsCondition c Needs t → IsChoice t y n r → IsChoiceBy c Needs y n r
  chosen_by t y n r condition choice = record {
    gives = λ x fit. choice.gives x ∙ ap (λ b. if b then value y x else value n x) (condition.tells x fit);
    tests = λ ns needs left right f v tested. elim (choice.tests (Equal f v) tested) [
      | inl asked ↦ condition.tests ns needs f v asked
      | inr below ↦ elim below [ inl in_yes ↦ left f v in_yes | inr in_no ↦ right f v in_no ]
    ];
  }

  -- what a choice by its diagram gives at a place
  pub chooses_by : (cs : List (Tree Bool)) (k : ℕ) (old new : List (Tree L)) (i j id : ℕ)
      → HasAt (IsCondition c Needs) cs k → ChoosesAt cs k old i j new id → ChoosesByAt c Needs old i j new id
  chooses_by cs k old new i j id condition chooses y n y_is n_is =
      let chosen = chooses condition.0 y n condition.1 y_is n_is in
      (chosen.0, chosen.1, chosen_by condition.0 y n chosen.0 condition.2 chosen.2)

  -- the diagrams may come together where they may with what has to be tested
  pub fit_by : (cs : List (Tree Bool)) (k : ℕ) (old : List (Tree L)) (i j : ℕ)
      → HasAt (IsCondition c Needs) cs k → FitByAt Needs old i j → FitAsChoiceAt cs k old i j
  fit_by cs k old i j condition fits t y n t_is y_is n_is =
      let there = condition.1 in
      let is : condition.0 ≡ t = cc in
      let told = condition.2 in
      room_for (λ ns within. (subst (Within ns) is (told.tests ns within.0), within.1, within.2)) (fits y n y_is n_is)

  -- choices by what is the same of each packet are the same
  pub chooses_same : (d : Numbers → Bool) (old new : List (Tree L)) (i j id : ℕ)
      → ((x : Numbers) → c x ≡ d x) → ChoosesByAt c Needs old i j new id → ChoosesByAt d Needs old i j new id
  chooses_same d old new i j id same chooses y n y_is n_is =
      let chosen = chooses y n y_is n_is in
      let by = chosen.2 in (
        chosen.0,
        chosen.1,
        record {
          gives = λ x fit. by.gives x fit ∙ ap (λ b. if b then value y x else value n x) (same x);
          tests = by.tests;
        },
      )

module _ {L : Type 0} (Needs : (Field → List ℕ) → Type 0) where
  -- a predicate with only the numbers that have to be tested fits a diagram
  pub fits_node : (p : PredTree) (ts : List (Tree L)) (i j : ℕ) → ((ns : Field → List ℕ) → Needs ns → IsPredWithin ns p)
      → i < length ts → j < length ts → FitByAt Needs ts i j → FitsAsNode p
  fits_node p ts i j within i_within j_within fits =
      let y = at_place ts i i_within in
      let n = at_place ts j j_within in
      room_for (λ ns needs. within ns needs.0) (fits y.0 n.0 y.1 n.1)
