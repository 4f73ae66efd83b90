-- The operands of disjunctions, one after another, and the disjunction of them.
use Rattle.std.proofs.Common.{ℕ, suc, ◌+◌, ◌<◌, ◌≡◌, ◌++◌, ◌∙◌, List, [], ◌∷◌, length, sym, ap, subst, arith}
use Rattle.std.specs.Prelude.{◌≢◌}
use Rattle.pq_fields.specs.declared.field.Field.{Field}
use Rattle.pq_fields.specs.declared.pred.Pred.{Pred}
use Rattle.pq_fields.specs.declared.pred.Pred.TheVariants as pred
use Rattle.pq_fields.specs.declared.pred.Pred.TheOpen.{Pred-F}
use Rattle.pq_fields.specs.declared.pred.Pred.TheFolds.{fold-roll-Pred}
use Rattle.pq_fields.specs.Pred.{PredTree, Preds, leaf, pred_step, pred_tree, pred_trees}
use Rattle.pq_fields.specs.Pred.PredTop.{Equals, Some as AnyOf}
use Rattle.pq_fields.specs.Pred.Preds.{none, put}
use Rattle.diagram_sizes.specs.declared.disjunctions.Tested.TheVariants.{Numbers}
use Rattle.diagram_sizes.specs.Disjunctions.{NameOnly, NamesOnly, IsTestable, numbers_of}
use Rattle.diagram_sizes.proofs.Numbers.{number_among, needs_none}

-- the test of a number is lawful and names that number
pub number_operand : (f : Field) (count place : ℕ) → IsTestable (Numbers f) count → place < count
    → NamesOnly (numbers_of (Numbers f) count) (pred_tree (pred.Equal f (place + 1)))
number_operand f count place testable within = subst (NamesOnly (numbers_of (Numbers f) count)) (sym is) (record {
  lawful = (omega (arith, testable.0, within), tt, tt);
  within = ((λ whole. number_among f count place within, needs_none (numbers_of (Numbers f) count) f testable.1 testable.2), tt, tt);
})
  where
    is : pred_tree (pred.Equal f (place + 1)) ≡ leaf (Equals f (place + 1))
    is = ap pred_tree (sym (pred.rolls-Equal f (place + 1))) ∙ fold-roll-Pred PredTree pred_step (Pred-F.Equal f (place + 1))

-- lawful operands with one more at the end are lawful, and name what all of them name
pub one_more : (ns : Field → List ℕ) (ps : List Pred) (p : Pred) → NameOnly ns (pred_trees ps) → NamesOnly ns (pred_tree p)
    → NameOnly ns (pred_trees (ps ++ p ∷ []))
one_more ns [] p operands last = record { lawful = last.lawful; within = last.within }
one_more ns (first ∷ ps) p operands last =
    let lawful = operands.lawful in
    let within = operands.within in
    let more = one_more ns ps p (record { lawful = lawful.2; within = within.2 }) last in
    record { lawful = (lawful.0, lawful.1, more.lawful); within = (within.0, within.1, more.within) }

-- how many predicates there are
abbrev number_of : Preds → ℕ
number_of none = 0
number_of (put top below rest) = suc (number_of rest)

-- where there are some, the list is not empty
some_are : (ps : List Pred) → 0 < length ps → pred_trees ps ≢ none
some_are [] some is = absurd (omega arith)
some_are (p ∷ ps) some is = let e : suc (number_of (pred_trees ps)) ≡ 0 = ap number_of is in absurd (omega (arith, e))

-- the disjunction of lawful operands is lawful and names what they name
pub disjunction_is : (ns : Field → List ℕ) (ps : List Pred) → NameOnly ns (pred_trees ps) → 0 < length ps
    → NamesOnly ns (record { top = AnyOf; below = pred_trees ps })
disjunction_is ns ps operands some = record {
  lawful = (some_are ps some, operands.lawful, tt);
  within = (tt, operands.within, tt);
}
