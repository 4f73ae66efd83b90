use Rattle.std.proofs.Common.{◌≡◌, drop}
use Rattle.pq_query.specs.Instances.{named_trees}
use Rattle.pq_values.specs.Known.{with_each, with_query}
use Rattle.pq_values.proofs.queries.put_named.Given as goal

-- the queries that are left make the whole
abbrev pub invariant-loop-query : goal.invariant-loop-query
invariant-loop-query l = with_each with_query (named_trees (drop l.query-index l.queries)) l.known.keys
    ≡ with_each with_query (named_trees l.queries) l.initial.known.keys
