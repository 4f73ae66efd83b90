use Rattle.std.proofs.Common.{◌≡◌, drop, map}
use Rattle.pq_query.specs.Query.{queries, query_tree}
use Rattle.pq_values.specs.Known.{with_queries}
use Rattle.pq_values.proofs.queries.+query.Given as goal

-- the queries that are left make the whole
abbrev pub invariant-put_queries-loop-query : goal.invariant-put_queries-loop-query
invariant-put_queries-loop-query l = with_queries (queries (map query_tree (drop l.query-index l.operands))) l.known.keys
    ≡ with_queries (queries (map query_tree l.operands)) l.initial.known.keys
