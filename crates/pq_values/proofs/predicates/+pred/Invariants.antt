use Rattle.std.proofs.Common.{◌≡◌, drop}
use Rattle.pq_fields.specs.Pred.{pred_trees}
use Rattle.pq_values.specs.Known.{with_preds}
use Rattle.pq_values.proofs.predicates.+pred.Given as goal

-- the predicates that are left make the whole
abbrev pub invariant-put_preds-loop-pred : goal.invariant-put_preds-loop-pred
invariant-put_preds-loop-pred l = with_preds (pred_trees (drop l.pred-index l.preds)) l.known.keys ≡ with_preds (pred_trees l.preds) l.initial.known.keys
