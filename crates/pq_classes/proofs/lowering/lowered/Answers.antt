use Rattle.std.proofs.Common.{arith, map}
use Rattle.pq_fields.specs.Pred.{pred_tree}
use Rattle.pq_lower.specs.Added.{added_preds}
use Rattle.pq_query.specs.Instances.{named_trees}
use Rattle.pq_classes.proofs.OneLowered.{more_added, one_more, query_of}
use Rattle.pq_classes.proofs.lowering.lowered.Goals as goal

-- one more instance, with its predicates
pub loop-instance-preserved : goal.loop-instance-preserved
loop-instance-preserved c =
    let qs = named_trees c.args.queries.now in
    let is = c.args.instances.now in
    let k = c.loop-instance.instance-index in
    let i = c.instance-item.result in
    let old = map pred_tree c.loop-instance.preds.items in
    let new = map pred_tree c.lowered_one.new.preds.items in
    let q = query_of c.args.queries.now is k i c.loop-instance-test.true c.instance-item.is c.requires.within in
    let grown = c.in_ok-expr.ensures.added q.0 q.1 in
    let few = c.in_ok-expr.ensures.few in
    let so_far = c.loop-instance.invariant.few in
    record {
      lowered = one_more qs is k i old new (added_preds q.0 i.label) c.loop-instance.exprs.items c.push.new.self.items c.in_ok-expr.expr
          c.loop-instance-test.true c.instance-item.is grown c.in_ok-push.ensures.items c.loop-instance.invariant.lowered
          c.in_ok-expr.ensures.lowered;
      added = more_added qs is k i q.0 old new c.loop-instance-test.true c.instance-item.is q.1 grown c.loop-instance.invariant.added;
      few = omega (arith, few, so_far);
    }
