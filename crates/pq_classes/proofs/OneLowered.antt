-- Lowering the instances one after another.
use Rattle.std.proofs.Common.{◌≡◌, ◌↔◌, ◌<◌, ◌≤◌, ◌+◌, ◌*◌, ◌^◌, ℕ, true, List, [], ◌∷◌, ◌++◌, length, map, get_or, take, sym, ap, subst}
use Rattle.std.proofs.Common.{◌∙◌, arith, length-append}
use Rattle.std.specs.Prelude.{All, IfOk, OnOk, Some, slice_get, Result, Ok, Err}
use Rattle.std.specs.List.{Contains}
use Rattle.std.specs.Option.{unwrap_or, option_map}
use Rattle.std.proofs.lemmas.List.{length-map, map-append, take_more}
use Rattle.std.proofs.lemmas.List.Elements.{All-append, All-get_or, All-weaker, All-contains_itself}
use Rattle.std.proofs.lemmas.Option.{slice_get-get_or, slice_get-map, get_or_from_slice_get}
use Rattle.std.proofs.lemmas.Slice.Zip.{all_zipped_more}
use Rattle.pq_lists.proofs.Places.{at_place}
use Rattle.pq_fields.specs.declared.pred.Pred.{Pred}
use Rattle.pq_fields.specs.Pred.{PredTree, pred_tree}
use Rattle.pq_model.specs.Buckets.{Instance}
use Rattle.pq_model.specs.Word.{Word, is_word}
use Rattle.pq_query.specs.declared.query.Query.{Query}
use Rattle.pq_query.specs.Atoms.{query_atoms}
use Rattle.pq_query.specs.Instances.{named_trees}
use Rattle.pq_query.specs.Language.{lang}
use Rattle.pq_query.specs.Query.{QueryTree, query_tree}
use Rattle.pq_expr.specs.declared.expr.Expr.{Expr}
use Rattle.pq_expr.specs.Expr.{ExprTree, bound, expr_tree}
use Rattle.pq_expr.specs.Language.{holds}
use Rattle.pq_lower.specs.Added.{added_preds}
use Rattle.pq_lower.specs.HalfSteps.{half_steps}
use Rattle.pq_lower.proofs.Longer.{longer_tells}
use Rattle.pq_classes.specs.Lowered.{AreLowered, IsAdded, IsLowered}

-- the query that is at a place
pub asked : (queries : List (List ℕ × Query)) (i : ℕ) (d : List ℕ × Query) → i < length queries
    → slice_get (named_trees queries) i ≡ Some (query_tree (get_or queries i d).1)
asked queries i d within = slice_get-map (λ q. query_tree q.1) queries i ∙ ap (option_map (λ q. query_tree q.1)) (slice_get-get_or queries i d within)

pub few_atoms : (queries : List (List ℕ × Query)) (i : ℕ) (d : List ℕ × Query) → i < length queries
    → All (λ q. query_atoms q < 2 ^ 19) (named_trees queries) → query_atoms (query_tree (get_or queries i d).1) < 2 ^ 19
few_atoms queries i d within few =
    let q = query_tree (get_or queries i d).1 in
    let long : length (named_trees queries) ≡ length queries = length-map queries (λ q. query_tree q.1) in
    subst (λ q. query_atoms q < 2 ^ 19) (get_or_from_slice_get (named_trees queries) i q q (asked queries i d within))
    (All-get_or (λ q. query_atoms q < 2 ^ 19) (named_trees queries) i q (omega (arith, long, within)) few)

-- there is one query at a place
one_query : (qs : List QueryTree) (i : ℕ) (q r : QueryTree) → slice_get qs i ≡ Some q → slice_get qs i ≡ Some r → q ≡ r
one_query qs i q r at is = ap (λ o. unwrap_or o q) (sym at ∙ is)

module _ (qs : List QueryTree) (i : Instance) (q : QueryTree) (at : slice_get qs i.query ≡ Some q) where
  pub one_lowered : {E : Type 0} (r : Result Expr E) (new : List Pred) → IfOk r (λ e. bound (expr_tree e) ≤ length new)
      → IfOk r (λ e. (w : Word) → is_word w ≡ true → lang q i.label w ↔ (holds (expr_tree e) (half_steps (map pred_tree new) w) ≡ true))
      → IfOk r (λ e. IsLowered qs (map pred_tree new) i (expr_tree e))
  one_lowered (Ok e) new few tells = record {
    few = let long = length-map new pred_tree in omega (arith, long, few);
    language = λ p is w word. subst (λ p. lang p i.label w ↔ (holds (expr_tree e) (half_steps (map pred_tree new) w) ≡ true))
        (one_query qs i.query q p at is) (tells w word);
  }
  one_lowered (Err f) new few tells = tt

  pub one_added : {E : Type 0} (r : Result Expr E) (old new : List PredTree) → OnOk r (new ≡ old ++ added_preds q i.label)
      → OnOk r ((p : QueryTree) → slice_get qs i.query ≡ Some p → new ≡ old ++ added_preds p i.label)
  one_added (Ok e) old new added = λ p is. subst (λ p. new ≡ old ++ added_preds p i.label) (one_query qs i.query q p at is) added
  one_added (Err f) old new added = tt

-- few predicates are added
pub one_grown : {E : Type 0} (r : Result Expr E) (old new : List Pred) (atoms : ℕ) → atoms < 2 ^ 19
    → OnOk r ((more : List Pred) × (new ≡ old ++ more) × (length more ≤ 1 + 2 * atoms)) → OnOk r (length new ≤ length old + 2 ^ 20)
one_grown (Ok e) old new atoms few grown = let long = ap length grown.1 ∙ length-append old grown.0 in omega (arith, long, grown.2, few)
one_grown (Err f) old new atoms few grown = tt

-- more predicates change nothing
lowered_more : (qs : List QueryTree) (ps more : List PredTree) (i : Instance) (e : ExprTree) → IsLowered qs ps i e → IsLowered qs (ps ++ more) i e
lowered_more qs ps more i e is = record {
  few = let long = length-append ps more in omega (arith, long, is.few);
  language = λ q at w word. subst (λ b. lang q i.label w ↔ (b ≡ true)) (sym (longer_tells e ps more w is.few)) (is.language q at w word);
}

all_more : (qs : List QueryTree) (ps more : List PredTree) (is : List Instance) (es : List ExprTree) → AreLowered qs ps is es → AreLowered qs (ps ++ more) is es
all_more qs ps more [] [] all = tt
all_more qs ps more [] (e ∷ es) all = absurd all
all_more qs ps more (i ∷ is) [] all = absurd all
all_more qs ps more (i ∷ is) (e ∷ es) all = (lowered_more qs ps more i e all.0, all_more qs ps more is es all.1)

-- one more instance
pub one_more : (qs : List QueryTree) (is : List Instance) (k : ℕ) (i : Instance) (old new added : List PredTree) (es : List Expr)
    (more : List Expr) (e : Expr) → k < length is → i ≡ get_or is k i → new ≡ old ++ added → more ≡ es ++ e ∷ []
    → AreLowered qs old (take k is) (map expr_tree es) → IsLowered qs new i (expr_tree e) → AreLowered qs new (take (k + 1) is) (map expr_tree more)
one_more qs is k i old new added es more e within at grown pushed all one =
    let so_far : AreLowered qs new (take k is) (map expr_tree es) =
    subst (λ ps. AreLowered qs ps (take k is) (map expr_tree es)) (sym grown)
    (all_more qs old added (take k is) (map expr_tree es) all) in
    let whole = all_zipped_more (IsLowered qs new) (take k is) (map expr_tree es) i (expr_tree e) so_far one in
    let front : take (k + 1) is ≡ take k is ++ i ∷ [] = take_more is k i within ∙ ap (λ j. take k is ++ j ∷ []) (sym at) in
    let back : map expr_tree more ≡ map expr_tree es ++ expr_tree e ∷ [] = ap (map expr_tree) pushed ∙ map-append expr_tree es (e ∷ []) in
    subst (λ js. AreLowered qs new js (map expr_tree more)) (sym front) (subst (λ ds. AreLowered qs new (take k is ++ i ∷ []) ds) (sym back) whole)

-- the query of an instance
pub query_of : (queries : List (List ℕ × Query)) (is : List Instance) (k : ℕ) (i : Instance) → k < length is → i ≡ get_or is k i
    → All (λ i. i.query < length queries) is → (q : QueryTree) × (slice_get (named_trees queries) i.query ≡ Some q)
query_of queries is k i within at all =
    let below : i.query < length queries = subst (λ j. j.query < length queries) (sym at) (all k i within) in
    let long : length (named_trees queries) ≡ length queries = length-map queries (λ q. query_tree q.1) in
    at_place (named_trees queries) i.query (omega (arith, long, below))

-- its predicates are of an instance
pub more_added : (qs : List QueryTree) (is : List Instance) (k : ℕ) (i : Instance) (q : QueryTree) (old new : List PredTree) → k < length is
    → i ≡ get_or is k i → slice_get qs i.query ≡ Some q → new ≡ old ++ added_preds q i.label → All (IsAdded qs is) old
    → All (IsAdded qs is) new
more_added qs is k i q old new within at asked grown all =
    subst (All (IsAdded qs is)) (sym grown)
    (All-append (IsAdded qs is) old (added_preds q i.label) all
    (All-weaker (Contains (added_preds q i.label)) (IsAdded qs is)
    (λ p contained. record { instance = i; listed = (k, within, sym at); query = q; asked = asked; added = contained })
    (added_preds q i.label) (All-contains_itself (added_preds q i.label))))
