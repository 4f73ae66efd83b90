use Rattle.std.proofs.Common.{◌≡◌, ◌++◌, map, drop}
use Rattle.pq_fields.specs.Pred.{pred_tree}
use Rattle.pq_lower.proofs.twins.+copy.Given as goal

abbrev pub invariant-copies-loop-pred : goal.invariant-copies-loop-pred
invariant-copies-loop-pred l = map pred_tree l.all.items ++ map pred_tree (drop l.pred-index l.preds) ≡ map pred_tree l.preds
