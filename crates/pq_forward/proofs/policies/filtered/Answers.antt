use Rattle.pq_fields.specs.Pred.{pred_tree}
use Rattle.pq_forward.proofs.Conditions.{filters_at}
use Rattle.pq_forward.proofs.policies.filtered.Goals as goal

pub returns-clause-filters : goal.returns-clause-filters
returns-clause-filters c =
    filters_at (pred_tree c.args.pred.now) c.pred_node.new.store c.in_ok-condition.condition c.in_ok-condition.ensures.holds
    c.keep.new.store c.in_ok-id.id c.in_ok-id.ensures.keeps_where
