use Rattle.std.proofs.Common.{◌≡◌, ◌≤◌, ◌++◌, drop}
use Rattle.pq_query.specs.Instances.{instances_from, instances_of, label_sum, named_trees}
use Rattle.pq_query.proofs.listing.few_instances.Given as goal

-- what is there and the queries that are left make the whole
abbrev pub invariant-loop-place : goal.invariant-loop-place
invariant-loop-place l = record {
  few : label_sum l.topology (named_trees (drop l.place l.queries)) ≤ 1024;
  whole : l.all.items ++ instances_from l.topology l.place (named_trees (drop l.place l.queries)) ≡ instances_of l.topology (named_trees l.queries);
}
