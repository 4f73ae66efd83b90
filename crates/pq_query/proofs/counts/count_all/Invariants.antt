use Rattle.std.proofs.Common.{◌≡◌, drop}
use Rattle.pq_query.specs.Counts.{sum_counted}
use Rattle.pq_query.specs.Instances.{named_trees}
use Rattle.pq_query.proofs.counts.count_all.Given as goal

-- the queries that are left make the whole of the sum
abbrev pub invariant-loop-named : goal.invariant-loop-named
invariant-loop-named l = sum_counted l.sizes (named_trees (drop l.named-index l.queries)) l.count ≡ sum_counted l.sizes (named_trees l.queries) 0
