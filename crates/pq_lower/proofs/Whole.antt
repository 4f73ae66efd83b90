-- The whole of a lowered query.
use Rattle.std.proofs.Common.{◌≡◌, ◌≤◌, ◌↔◌, ℕ, ◌+◌, ◌*◌, true, List, [], ◌∷◌, ◌++◌, map, length, sym, ap, subst, ◌∙◌, append-nil, length-append, arith}
use Rattle.std.proofs.lemmas.List.{length-map, map-append}
use Rattle.pq_expr.specs.Expr.{ExprTree}
use Rattle.pq_expr.specs.Language.{holds}
use Rattle.pq_fields.specs.declared.pred.Pred.{Pred}
use Rattle.pq_fields.specs.Pred.{Always, leaf, pred_tree}
use Rattle.pq_model.specs.Word.{Word, is_word}
use Rattle.pq_query.specs.Query.{QueryTree}
use Rattle.pq_query.specs.Language.{lang}
use Rattle.pq_lower.specs.HalfSteps.{half_steps}
use Rattle.pq_lower.specs.Added.{query_preds, added_preds, query_count}
use Rattle.pq_query.specs.Atoms.{query_atoms}
use Rattle.pq_lower.specs.Lowered.{lowered}
use Rattle.pq_lower.proofs.Places.{HasAt, has_first, has_second, number_tells, counted, few_preds}
use Rattle.pq_lower.proofs.Meaning.{lowered_tells}
use Rattle.pq_lower.specs.Depth.{depth, query_depth}
use Rattle.pq_lower.proofs.Bounds.{IsGood, lowered_good}
use Rattle.pq_lower.proofs.Depths.{lowered_depth}

-- a query lowered over a list of predicates
pub record IsLowered (base : ℕ) (q : QueryTree) (label : List ℕ) (old added new : List Pred) (e : ExprTree) : Type 0 where
  pub based : base ≡ length old
  pub expr : e ≡ lowered base (base + 1) q
  pub gained : map pred_tree added ≡ added_preds q label
  pub joined : new ≡ old ++ added

pub whole_added : (base : ℕ) (q : QueryTree) (label : List ℕ) (old added new : List Pred) (e : ExprTree)
    → IsLowered base q label old added new e → map pred_tree new ≡ map pred_tree old ++ added_preds q label
whole_added base q label old added new e l = ap (λ z. map pred_tree z) l.joined ∙ map-append pred_tree old added ∙ ap (λ z. map pred_tree old ++ z) l.gained

pub whole_language : (base : ℕ) (q : QueryTree) (label : List ℕ) (old added new : List Pred) (e : ExprTree)
    → IsLowered base q label old added new e → (w : Word) → is_word w ≡ true
    → lang q label w ↔ (holds e (half_steps (map pred_tree new) w) ≡ true)
whole_language base q label old added new e l w word =
    let all = map pred_tree new in
    let has : HasAt all base ((leaf Always ∷ []) ++ query_preds q label) = record {
      before = map pred_tree old;
      more = [];
      whole = whole_added base q label old added new e l ∙ ap (λ z. map pred_tree old ++ z) (sym (append-nil (added_preds q label)));
      there = l.based ∙ sym (length-map old pred_tree);
    } in
    subst (λ z. lang q label w ↔ (holds z (half_steps all w) ≡ true)) (sym l.expr)
    (lowered_tells all base (base + 1) q label
    (number_tells all base (leaf Always) [] (has_first all base (leaf Always ∷ []) (query_preds q label) has))
    (has_second all base (leaf Always ∷ []) (query_preds q label) has) w word)

-- the number of predicates that are added
added_count : (base : ℕ) (q : QueryTree) (label : List ℕ) (old added new : List Pred) (e : ExprTree)
    → IsLowered base q label old added new e → length added ≡ 1 + query_count q
added_count base q label old added new e l =
    let size : length (added_preds q label) ≡ 1 + query_count q = omega (arith, counted q label) in
    sym (length-map added pred_tree) ∙ ap (λ z. length z) l.gained ∙ size

pub whole_grown : (base : ℕ) (q : QueryTree) (label : List ℕ) (old added new : List Pred) (e : ExprTree)
    → IsLowered base q label old added new e → (more : List Pred) × (new ≡ old ++ more) × (length more ≤ 1 + 2 * query_atoms q)
whole_grown base q label old added new e l =
    let count = added_count base q label old added new e l in
    let few = few_preds q in
    (added, l.joined, omega (arith, count, few))

pub whole_good : (base : ℕ) (q : QueryTree) (label : List ℕ) (old added new : List Pred) (e : ExprTree)
    → IsLowered base q label old added new e → IsGood (length new) e
whole_good base q label old added new e l =
    let count = added_count base q label old added new e l in
    let sum : length new ≡ length old + length added = ap (λ z. length z) l.joined ∙ length-append old added in
    let based = l.based in
    subst (λ z. IsGood (length new) z) (sym l.expr) (lowered_good (length new) base (base + 1) q (omega (arith, count, sum, based))
    (omega (arith, count, sum, based)))

pub whole_depth : (base : ℕ) (q : QueryTree) (label : List ℕ) (old added new : List Pred) (e : ExprTree)
    → IsLowered base q label old added new e → depth e ≤ 1 + 2 * query_depth q
whole_depth base q label old added new e l = subst (λ z. depth z ≤ 1 + 2 * query_depth q) (sym l.expr) (lowered_depth base (base + 1) q)
