use Rattle.std.proofs.Common.{◌≡◌, take}
use Rattle.pq_query.specs.Instances.{label_sum, named_trees}
use Rattle.pq_command.proofs.summary.count_labels.Given as goal

-- those of the queries so far
abbrev pub invariant-loop-query : goal.invariant-loop-query
invariant-loop-query l = l.total ≡ label_sum l.topology (named_trees (take l.query-index l.queries))
