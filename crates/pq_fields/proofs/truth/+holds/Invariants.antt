use Rattle.std.proofs.Common.{◌≡◌, drop}
use Rattle.std.specs.List.{list_all, list_any}
use Rattle.pq_fields.specs.Pred.{truths, pred_trees}
use Rattle.pq_fields.proofs.truth.+holds.Given as goal

abbrev pub invariant-all_hold-loop-pred : goal.invariant-all_hold-loop-pred
invariant-all_hold-loop-pred l = list_all (λ b. b) (truths (pred_trees (drop l.pred-index l.preds)) l.x) ≡ list_all (λ b. b) (truths (pred_trees l.preds) l.x)

abbrev pub invariant-any_holds-loop-pred : goal.invariant-any_holds-loop-pred
invariant-any_holds-loop-pred l = list_any (λ b. b) (truths (pred_trees (drop l.pred-index l.preds)) l.x) ≡ list_any (λ b. b) (truths (pred_trees l.preds) l.x)
