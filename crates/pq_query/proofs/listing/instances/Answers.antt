use Rattle.std.proofs.Common.{arith}
use Rattle.pq_query.specs.Instances.{named_trees}
use Rattle.pq_query.proofs.Listed.{listed_below, sum_told}
use Rattle.pq_query.proofs.listing.instances.Goals as goal

pub returns-then-count-gt-MOST_INSTANCES-clause-cause : goal.returns-then-count-gt-MOST_INSTANCES-clause-cause
returns-then-count-gt-MOST_INSTANCES-clause-cause c =
    let sum = sum_told c.args.topology.now (named_trees c.args.queries.now) c.sizes_of-sizes.result c.count_all-count.result
    c.sizes_of-sizes.ensures c.count_all-count.ensures in
    (omega (arith, sum, c.if-count-gt-MOST_INSTANCES.true), sum)

pub few_instances-requires-clause-few : goal.few_instances-requires-clause-few
few_instances-requires-clause-few c =
    let sum = sum_told c.args.topology.now (named_trees c.args.queries.now) c.sizes_of-sizes.result c.count_all-count.result
    c.sizes_of-sizes.ensures c.count_all-count.ensures in
    omega (arith, sum, c.if-count-gt-MOST_INSTANCES.false)

pub returns-in-Ok-clause-within : goal.returns-in-Ok-clause-within
returns-in-Ok-clause-within c =
    let sum = sum_told c.args.topology.now (named_trees c.args.queries.now) c.sizes_of-sizes.result c.count_all-count.result
    c.sizes_of-sizes.ensures c.count_all-count.ensures in
    omega (arith, sum, c.if-count-gt-MOST_INSTANCES.false)

pub returns-in-Ok-clause-below : goal.returns-in-Ok-clause-below
returns-in-Ok-clause-below c = listed_below c.args.topology.now c.args.queries.now c.in-Ok.all.items c.in-Ok.ensures

pub returns-in-Err-clause-cause : goal.returns-in-Err-clause-cause
returns-in-Err-clause-cause c =
    let sum = sum_told c.args.topology.now (named_trees c.args.queries.now) c.sizes_of-sizes.result c.count_all-count.result
    c.sizes_of-sizes.ensures c.count_all-count.ensures in
    omega (arith, sum, c.if-count-gt-MOST_INSTANCES.false)
