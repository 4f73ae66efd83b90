-- The predicates of examples have diagrams, and these may come together.
use Rattle.std.proofs.Common.{ℕ, ◌^◌, ◌<◌, ◌≡◌, ◌∙◌, Bool, true, List, [], ◌∷◌, refl, sym, ap, subst, inl, inr, arith}
use Rattle.std.specs.Prelude.{◌==◌, Some, slice_get}
use Rattle.std.specs.List.{Any, list_any}
use Rattle.std.proofs.lemmas.Bool.{true≢false}
use Rattle.std.proofs.lemmas.Bool.Decides.{eqb_tells}
use Rattle.std.proofs.lemmas.List.Elements.{All-nil, All-cons}
use Rattle.std.proofs.lemmas.List.Folds.{Any-from_list_any}
use Rattle.pq_fields.specs.declared.field.Field.{Field}
use Rattle.pq_fields.specs.declared.pred.Pred.TheVariants as pred
use Rattle.pq_fields.specs.declared.pred.Pred.TheOpen.{Pred-F}
use Rattle.pq_fields.specs.declared.pred.Pred.TheFolds.{fold-roll-Pred}
use Rattle.pq_fields.specs.Packet.{width_of}
use Rattle.pq_fields.specs.Pred.{PredTree, leaf, pred_step, pred_tree}
use Rattle.pq_fields.specs.Pred.PredTop.{Equals}
use Rattle.pq_store.specs.Tree.{Tree}
use Rattle.pq_store.specs.Room.{AreFew, IsAmong, Within}
use Rattle.pq_apply.specs.Predicates.{FitsAsNode, HoldsAt, NeedsAmong}
use Rattle.pq_apply.specs.Junction.{FitTogetherAll}
use Rattle.pq_apply.specs.Product.{FitTogetherAt}
use Rattle.pq_apply.specs.Examples.{IsExample, IsExampleAt, example_numbers}
use Rattle.pq_store.proofs.RoomLemmas.{roomy}
use Rattle.pq_apply.proofs.Required.{needs_among}

-- a number found among some is among them
pub found_among : (v : ℕ) (ns : List ℕ) → list_any (λ n. v == n) ns ≡ true → IsAmong v ns
found_among v ns found = by (Any-from_list_any (λ n. v == n) ns found)
  where
    same : (n : ℕ) → (v == n) ≡ true → v ≡ n
    same n test = elim (eqb_tells v n) [ inl equal ↦ equal.1 | inr other ↦ absurd (true≢false (sym test ∙ other.0)) ]

    by : Any (λ n. (v == n) ≡ true) ns → IsAmong v ns
    by (k, n, within, at, test) = (k, n, within, at, same n test)

-- the numbers in prerequisites are among those of examples
pub needs_known : (f : Field) → NeedsAmong (λ g. example_numbers) f
needs_known f =
    needs_among (λ g. example_numbers) (found_among 0x0800 example_numbers refl) (found_among 0x86dd example_numbers refl) (found_among 6 example_numbers refl)
    (found_among 17 example_numbers refl) f

-- few numbers are tested together
pub examples_few : AreFew (λ f. example_numbers)
examples_few f whole = omega (arith, roomy f)

-- the predicates of examples have few numbers
pub example_fits : (p : PredTree) → IsExample p → FitsAsNode p
example_fits p example = record { numbers = λ f. example_numbers; few = examples_few; within = example.within }

-- the test of a number is an example
pub equal_example : (f : Field) (n : ℕ) → n < 2 ^ width_of f → list_any (λ m. n == m) example_numbers ≡ true → IsExample (pred_tree (pred.Equal f n))
equal_example f n fits known = subst IsExample (sym is) (record {
  lawful = (fits, tt, tt);
  within = ((λ whole. found_among n example_numbers known, needs_known f), tt, tt);
})
  where
    is : pred_tree (pred.Equal f n) ≡ leaf (Equals f n)
    is = ap pred_tree (sym (pred.rolls-Equal f n)) ∙ fold-roll-Pred PredTree pred_step (Pred-F.Equal f n)

-- their diagrams have only their numbers
pub example_at : (p : PredTree) (ts : List (Tree Bool)) (id : ℕ) → IsExample p → HoldsAt p ts id → IsExampleAt ts id
example_at p ts id example (t, is, holds) = (t, is, holds.tests (λ f. example_numbers) example.within)

-- of which there are few in one
pub one_fits : (ts : List (Tree Bool)) (id : ℕ) → IsExampleAt ts id → (t : Tree Bool) → slice_get ts id ≡ Some t → FitTogetherAll (t ∷ [])
one_fits ts id (u, is, within) t t_is =
    let e : u ≡ t = cc in
    let ns : Field → List ℕ = λ f. example_numbers in
    record { numbers = ns; few = examples_few; within = All-cons (Within ns) t [] (subst (Within ns) e within) (All-nil (Within ns)) }

-- and in two
pub two_fit : (ls rs : List (Tree Bool)) (x y : ℕ) → IsExampleAt ls x → IsExampleAt rs y → FitTogetherAt ls x rs y
two_fit ls rs x y (l, l_is, l_within) (r, r_is, r_within) t u t_is u_is =
    let e : l ≡ t = cc in
    let f : r ≡ u = cc in
    let ns : Field → List ℕ = λ f. example_numbers in
    record { numbers = ns; few = examples_few; within = (subst (Within ns) e l_within, subst (Within ns) f r_within) }
