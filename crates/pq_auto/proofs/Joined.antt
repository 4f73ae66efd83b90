-- The automaton of an expression, of which states were joined.
use Rattle.std.proofs.Common.{◌≡◌, ◌≤◌, ℕ, Bool, List, [], ◌∷◌, length, map, sym, subst, ◌∙◌}
use Rattle.std.proofs.lemmas.List.{length-map}
use Rattle.pq_expr.specs.Expr.{ExprTree}
use Rattle.pq_deriv.specs.Choices.{IsOneOf}
use Rattle.pq_deriv.specs.Most.{most}
use Rattle.pq_deriv.proofs.Choices.{one_changed}
use Rattle.pq_auto.specs.Exploration.{IsExploration}
use Rattle.pq_auto.specs.Machine.{Machine, AllBelow, SaySame, follow}
use Rattle.pq_auto.specs.Refinement.{AreJoined}
use Rattle.pq_auto.specs.Telling.{HasFew, IsTable}

module _ (m a : Machine) (letters : a.letters ≡ m.letters) (same : SaySame m a) where
  -- it says the same of the expressions
  pub still_explores : (es : List ExprTree) (alphabet : List (List Bool)) → IsExploration es alphabet m → IsExploration es alphabet a
  still_explores es alphabet explored = record {
    letters = letters ∙ explored.letters;
    even = λ w below. sym (same w (subst (λ n. AllBelow n w) (sym explored.letters) below)).0 ∙ explored.even w below;
    accepted = λ w below. sym (same w (subst (λ n. AllBelow n w) (sym explored.letters) below)).1 ∙ explored.accepted w below;
  }

  module _ (joined : AreJoined m a) where
    -- and has no more states
    still_few : (n most : ℕ) → m.letters ≡ n → HasFew n m most → HasFew n a most
    still_few n most count few b =
        let ns = few b in (
          map joined.0 ns.0,
          subst (λ k. k ≤ most) (sym (length-map ns.0 joined.0)) ns.1,
          λ w below is. subst (IsOneOf (map joined.0 ns.0)) (sym (joined.1 w (subst (λ k. AllBelow k w) (sym count) below)))
              (one_changed joined.0 ns.0 (follow m.rows 0 w) (ns.2 w below is)),
        )

    pub still_table : (e : ExprTree) (alphabet : List (List Bool)) → IsTable alphabet m e → IsTable alphabet a e
    still_table e alphabet table = (still_explores (e ∷ []) alphabet table.0, λ lawful. still_few (length alphabet) (most e) table.0.letters (table.1 lawful))
