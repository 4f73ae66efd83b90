use Rattle.std.proofs.Common.{◌≤◌, ◌*◌, ◌^◌, length, map, take}
use Rattle.std.specs.Prelude.{All}
use Rattle.pq_fields.specs.Pred.{pred_tree}
use Rattle.pq_expr.specs.Expr.{expr_tree}
use Rattle.pq_query.specs.Instances.{named_trees}
use Rattle.pq_classes.specs.Lowered.{AreLowered, IsAdded}
use Rattle.pq_classes.proofs.lowering.lowered.Given as goal

abbrev pub invariant-loop-instance : goal.invariant-loop-instance
invariant-loop-instance l = record {
  lowered : AreLowered (named_trees l.queries) (map pred_tree l.preds.items) (take l.instance-index l.instances) (map expr_tree l.exprs.items);
  added : All (IsAdded (named_trees l.queries) l.instances) (map pred_tree l.preds.items);
  few : length l.preds.items ≤ l.instance-index * 2 ^ 20;
}
