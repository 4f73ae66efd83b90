-- Trees made with the diagram of a predicate.
use Rattle.std.proofs.Common.{ℕ, ◌<◌, ◌≡◌, ◌∙◌, Bool, true, List, length, refl, sym}
use Rattle.pq_fields.specs.Pred.{PredTree, holds}
use Rattle.pq_fields.specs.Writes.{Written}
use Rattle.pq_store.specs.declared.test.Test.TheVariants.{Equal}
use Rattle.pq_store.specs.Tree.{Tree, value}
use Rattle.pq_store.specs.Store.{HasAt}
use Rattle.pq_apply.specs.Choice.{ChoosesAt, FitAsChoiceAt}
use Rattle.pq_apply.specs.Predicates.{FitsAsNode, HoldsAt, IsPredTree}
use Rattle.pq_rewrite.specs.Calls.{IsKeeping, KeepsWhereAt}
use Rattle.pq_rewrite.specs.Choices.{ChoosesByAt, FitByAt}
use Rattle.pq_rewrite.proofs.Choosing.{IsCondition, chooses_by, fit_by, fits_node, predicate_condition}
use Rattle.pq_rewrite.proofs.Turns.{giving_as}
use Rattle.pq_forward.specs.Forward.{IsFiltered, pred_needs}

module _ (p : PredTree) (cs : List (Tree Bool)) (k : ℕ) (told : HoldsAt p cs k) where
  -- what is kept by it is filtered by the predicate
  filters : (c : Tree Bool) (t : Tree (List Written)) → IsPredTree p c → IsKeeping c t → IsFiltered p t
  filters c t tree keeping = record {
    giving = giving_as (λ x y. (value c x ≡ true) × (y ≡ x)) (λ x y. (holds p x ≡ true) × (y ≡ x)) t
        (λ x y fit. (λ both. (sym (tree.gives x fit) ∙ both.0, both.1), λ both. (tree.gives x fit ∙ both.0, both.1))) keeping.giving;
    covers = λ ns within. record {
      tests = λ f v tested. tree.tests ns within f v (keeping.tests (Equal f v) tested);
      writes = λ f n writes. absurd (keeping.writes f n writes);
    };
  }

  -- so it is at its place
  pub filters_at : (ts : List (Tree (List Written))) (id : ℕ) → KeepsWhereAt cs k ts id → HasAt (IsFiltered p) ts id
  filters_at ts id keeping =
      let kept = keeping told.0 told.1 in
      (kept.0, kept.1, filters told.0 kept.0 told.2 kept.2)

module _ (p : PredTree) (ts : List (Tree (List Written))) (i j : ℕ) (fits : FitByAt (pred_needs p) ts i j) where
  -- a predicate fits a diagram where it does with two trees
  pub pred_fits : i < length ts → j < length ts → FitsAsNode p
  pred_fits i_within j_within = fits_node (pred_needs p) p ts i j (λ ns within. within) i_within j_within fits

  module _ (cs : List (Tree Bool)) (k : ℕ) (told : HoldsAt p cs k) where
    -- its diagram is a condition
    condition : HasAt (IsCondition (holds p) (pred_needs p)) cs k
    condition = predicate_condition (holds p) (pred_needs p) p cs k (λ x. refl) (λ ns within. within) told

    -- the three may come together
    pub choice_fits : FitAsChoiceAt cs k ts i j
    choice_fits = fit_by (holds p) (pred_needs p) cs k ts i j condition fits

    -- and the choice by its diagram is that by the predicate
    pub chooses_by_pred : (new : List (Tree (List Written))) (id : ℕ) → ChoosesAt cs k ts i j new id → ChoosesByAt (holds p) (pred_needs p) ts i j new id
    chooses_by_pred new id chooses = chooses_by (holds p) (pred_needs p) cs k ts new i j id condition chooses
