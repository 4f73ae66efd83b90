-- Operands that are lowered one after another.
use Rattle.std.proofs.Common.{◌≡◌, ◌≤◌, ◌<◌, ℕ, zero, suc, ◌+◌, ◌*◌, ◌^◌, List, [], ◌∷◌, ◌++◌, map, drop, length, get_or, refl, sym, ap}
use Rattle.std.proofs.Common.{subst, ◌∙◌, append_assoc, length-append, arith}
use Rattle.std.proofs.lemmas.List.{length-map, map-append}
use Rattle.pq_lists.proofs.Places.{from_place}
use Rattle.pq_expr.specs.declared.expr.Expr.{Expr}
use Rattle.pq_expr.specs.Expr.{ExprTree, expr_tree}
use Rattle.pq_fields.specs.Pred.{PredTree, pred_tree}
use Rattle.pq_fields.specs.declared.pred.Pred.{Pred}
use Rattle.pq_query.specs.declared.query.Query.{Query}
use Rattle.pq_query.specs.Query.{QueryTree, queries, query_tree}
use Rattle.pq_query.specs.Labels.{top_groups, groups_of}
use Rattle.pq_query.specs.Language.{share}
use Rattle.pq_lower.specs.Added.{preds_of, query_preds, query_count}
use Rattle.pq_query.specs.Atoms.{atoms, query_atoms}
use Rattle.pq_lower.specs.Lowered.{lowered, lowered_each}
use Rattle.pq_lower.proofs.Places.{counted, few_preds}

-- what is left of a list
drop_none : {A : Type 0} (n : ℕ) → drop {A = A} n [] ≡ []
drop_none zero = refl
drop_none (suc n) = refl

drop_twice : {A : Type 0} (n m : ℕ) (xs : List A) → drop m (drop n xs) ≡ drop (n + m) xs
drop_twice zero m xs = ap (λ k. drop k xs) (omega arith)
drop_twice (suc n) m [] = drop_none m ∙ sym (drop_none (suc n + m))
drop_twice {A = A} (suc n) m (x ∷ xs) =
    let more : suc (n + m) ≡ suc n + m = omega arith in
    drop_twice n m xs ∙ ap {A = ℕ} {B = List A} (λ k. drop k (x ∷ xs)) more

-- what is done, and then what is left, makes the whole: its expressions, its predicates, and the rest of the label
pub record Going (base : ℕ) (label : List ℕ) (whole : List ExprTree) (needed : List PredTree) (end : List ℕ) (qs : List QueryTree)
    (place count : ℕ) (added : List PredTree) (done : List ExprTree) : Type 0 where
  pub made : done ++ lowered_each base (base + count) (queries qs) ≡ whole
  pub grown : added ++ preds_of (queries qs) (drop place label) ≡ needed
  pub left : drop (length (groups_of (queries qs))) (drop place label) ≡ end
  pub within : place ≤ length label
  pub room : base + (count + 2 * atoms (queries qs)) < 2 ^ 32

-- one more operand
going_on : (base : ℕ) (label : List ℕ) (whole : List ExprTree) (needed : List PredTree) (end : List ℕ) (q : QueryTree) (qs : List QueryTree)
    (place count : ℕ) (added : List PredTree) (done : List ExprTree) (e : ExprTree) (next more : ℕ) (gained : List PredTree)
    → Going base label whole needed end (q ∷ qs) place count added done → e ≡ lowered base (base + count) q
    → gained ≡ added ++ query_preds q (drop place label) → drop next label ≡ drop (share q.top q.below) (drop place label)
    → next ≤ length label → count ≡ length added → more ≡ length gained
    → Going base label whole needed end qs next more gained (done ++ e ∷ [])
going_on base label whole needed end q qs place count added done e next more gained g expr_is gained_is next_is within counts more_is =
    let own = query_preds q (drop place label) in
    let top_length = length-append (top_groups q.top) (groups_of q.below ++ groups_of (queries qs)) in
    let below_length = length-append (groups_of q.below) (groups_of (queries qs)) in
    let own_length = length-append (top_groups q.top) (groups_of q.below) in
    let all : share q.top q.below + length (groups_of (queries qs)) ≡ length (groups_of (queries (q ∷ qs))) =
    omega (arith, top_length, below_length, own_length) in
    let few : query_count q ≤ 2 * query_atoms q = few_preds q in
    let sum : length gained ≡ length added + length own = ap (λ z. length z) gained_is ∙ length-append added own in
    let size : length own ≡ query_count q = counted q (drop place label) in
    let number : base + more ≡ (base + count) + query_count q = omega (arith, sum, size, counts, more_is) in
    record {
      made = append_assoc done (e ∷ []) (lowered_each base (base + more) (queries qs))
          ∙ ap (λ z. done ++ z ∷ lowered_each base (base + more) (queries qs)) expr_is
          ∙ ap (λ m. done ++ lowered base (base + count) q ∷ lowered_each base m (queries qs)) number ∙ g.made;
      grown = ap (λ z. z ++ preds_of (queries qs) (drop next label)) gained_is
          ∙ append_assoc added own (preds_of (queries qs) (drop next label)) ∙ ap (λ z. added ++ (own ++ preds_of (queries qs) z)) next_is
          ∙ g.grown;
      left = ap (λ z. drop (length (groups_of (queries qs))) z) next_is
          ∙ drop_twice (share q.top q.below) (length (groups_of (queries qs))) (drop place label) ∙ ap (λ n. drop n (drop place label)) all
          ∙ g.left;
      within = within;
      room = omega (arith, g.room, few, sum, size, counts, more_is);
    }

-- the same of what the code keeps
pub walk_on : (base : ℕ) (label : List ℕ) (whole : List ExprTree) (needed : List PredTree) (end : List ℕ) (xs : List Query) (i : ℕ)
    (x : Query) (place next : ℕ) (added gained : List Pred) (done new : List Expr) (e : Expr)
    → Going base label whole needed end (map query_tree (drop i xs)) place (length added) (map pred_tree added) (map expr_tree done)
    → i < length xs → x ≡ get_or xs i x → new ≡ done ++ e ∷ [] → expr_tree e ≡ lowered base (base + length added) (query_tree x)
    → map pred_tree gained ≡ map pred_tree added ++ query_preds (query_tree x) (drop place label)
    → drop next label ≡ drop (share (query_tree x).top (query_tree x).below) (drop place label) → next ≤ length label
    → Going base label whole needed end (map query_tree (drop (i + 1) xs)) next (length gained) (map pred_tree gained) (map expr_tree new)
walk_on base label whole needed end xs i x place next added gained done new e g there is pushed expr_is gained_is next_is within =
    let split = ap (λ z. map query_tree z) (from_place xs i x there is) in
    let here = subst (λ qs. Going base label whole needed end qs place (length added) (map pred_tree added) (map expr_tree done)) split g in
    subst (λ z. Going base label whole needed end (map query_tree (drop (i + 1) xs)) next (length gained) (map pred_tree gained) z)
    (sym (ap (λ z. map expr_tree z) pushed ∙ map-append expr_tree done (e ∷ [])))
    (going_on base label whole needed end (query_tree x) (map query_tree (drop (i + 1) xs)) place (length added) (map pred_tree added)
    (map expr_tree done) (expr_tree e) next (length gained) (map pred_tree gained) here expr_is gained_is next_is within
    (sym (length-map added pred_tree)) (sym (length-map gained pred_tree)))
