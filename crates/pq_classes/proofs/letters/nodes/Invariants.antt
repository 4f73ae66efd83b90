use Rattle.std.proofs.Common.{map, take}
use Rattle.std.specs.List.{AllZip}
use Rattle.pq_fields.specs.Pred.{pred_tree}
use Rattle.pq_store.specs.Store.{Keeps}
use Rattle.pq_apply.specs.Predicates.{HoldsAt}
use Rattle.pq_classes.proofs.letters.nodes.Given as goal

abbrev pub invariant-loop-pred : goal.invariant-loop-pred
invariant-loop-pred l = record {
  nodes : AllZip (λ p id. HoldsAt p l.tests id) (take l.pred-index (map pred_tree l.preds)) l.ids.items;
  keeps : Keeps l.initial.tests l.tests;
}
