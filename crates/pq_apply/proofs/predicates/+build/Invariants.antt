use Rattle.std.proofs.Common.{ℕ, List, ◌++◌, Bool, drop}
use Rattle.pq_fields.specs.Pred.{AreLawful, pred_trees}
use Rattle.pq_store.specs.Tree.{Tree}
use Rattle.pq_store.specs.Store.{Keeps}
use Rattle.pq_apply.specs.Operands.{FitAsNodes, HoldAt}
use Rattle.pq_apply.proofs.predicates.+build.Given as goal

abbrev pub invariant-build_all-loop-pred : goal.invariant-build_all-loop-pred
invariant-build_all-loop-pred l = record {
  lawful : AreLawful (pred_trees (drop l.pred-index l.preds));
  fits : FitAsNodes (pred_trees (drop l.pred-index l.preds));
  hold : (us : List (Tree Bool)) → Keeps l.store us → (more : List ℕ) → HoldAt (pred_trees (drop l.pred-index l.preds)) us more
      → HoldAt (pred_trees l.preds) us (l.nodes.items ++ more);
  keeps : Keeps l.fn.store l.store;
  scratch : Keeps l.fn.scratch l.scratch;
}
