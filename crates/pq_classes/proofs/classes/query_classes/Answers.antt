use Rattle.std.proofs.Common.{◌∙◌}
use Rattle.pq_query.specs.Instances.{named_trees}
use Rattle.pq_classes.proofs.Whole.{few_instances}
use Rattle.pq_classes.proofs.classes.query_classes.Goals as goal

pub told-requires-clause-few : goal.told-requires-clause-few
told-requires-clause-few g c =
    few_instances c.args.topology.now (named_trees c.args.queries.now) c.deref.result.now (c.deref.ensures.value
    ∙ c.in_ok-instances.ensures.instances) c.in_ok-instances.ensures.within

pub returns-in-Ok-clause-few : goal.returns-in-Ok-clause-few
returns-in-Ok-clause-few g c =
    few_instances c.args.topology.now (named_trees c.args.queries.now) c.in_ok-instances.instances.items c.in_ok-instances.ensures.instances
    c.in_ok-instances.ensures.within
