use Rattle.std.proofs.Common.{◌≡◌, [], ◌∷◌, ◌+◌, ◌++◌, ap, ◌∙◌, List, ℕ, map, length, refl, arith, rules}
use Rattle.pq_expr.specs.Expr.{ExprTree, expr_tree}
use Rattle.pq_fields.specs.Pred.{PredTree, Always, leaf, pred_tree}
use Rattle.pq_query.specs.Query.{query_tree}
use Rattle.pq_lower.specs.Added.{query_preds}
use Rattle.pq_lower.specs.Lowered.{lowered}
use Rattle.pq_lower.proofs.Building.{lawful_more}
use Rattle.pq_lower.proofs.Whole.{IsLowered, whole_added, whole_language, whole_grown, whole_good, whole_depth}
use Rattle.pq_lower.proofs.expression.lower.Goals as goal

pub returns : goal.returns
returns c =
    let begun : map pred_tree c.push.new.self.items ≡ leaf Always ∷ [] =
    rw (c.in_ok-push.ensures.items, c.new-added.ensures.items) (ap (λ z. z ∷ []) c.every_packet.ensures) in
    let one : length c.push.new.self.items ≡ 1 = rw (c.in_ok-push.ensures.items, c.new-added.ensures.items) refl in
    let l : IsLowered c.len-base.result (query_tree c.args.query.now) c.args.label.now c.args.preds.now.items c.lower_query.new.added.items
    c.append.new.self.items (expr_tree c.in_ok-expr.expr) = record {
      based = first_of (search (c.len-base.ensures, rules), omega (arith, c.len-base.ensures));
      expr = c.in_ok-expr.ensures.expr ∙ ap {A = ℕ} {B = ExprTree} (λ n. lowered c.len-base.result (c.len-base.result + n) (query_tree c.args.query.now)) one;
      gained = c.in_ok-expr.ensures.added
          ∙ ap {A = List ℕ} {B = List PredTree} (λ z. map pred_tree c.push.new.self.items ++ query_preds (query_tree c.args.query.now) z)
          c.values.ensures ∙ ap {A = List PredTree} {B = List PredTree}
          (λ z. z ++ query_preds (query_tree c.args.query.now) c.args.label.now) begun;
      joined = c.in_ok-append.ensures.items;
    } in
    let good = whole_good _ _ _ _ _ _ _ l in
    let added = whole_added _ _ _ _ _ _ _ l in
    record {
      language = λ w word. whole_language _ _ _ _ _ _ _ l w word;
      grown = whole_grown _ _ _ _ _ _ _ l;
      added = added;
      lawful_preds = λ lawful fit all. lawful_more _ _ _ _ added lawful fit all;
      bound = good.bounded;
      lawful = good.lawful;
      depth = whole_depth _ _ _ _ _ _ _ l;
      err = search rules;
    }
