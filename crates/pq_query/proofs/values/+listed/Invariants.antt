use Rattle.std.proofs.Common.{◌≡◌, drop, map}
use Rattle.pq_query.specs.Counts.{on_queries, with_values}
use Rattle.pq_query.specs.Query.{queries, query_tree}
use Rattle.pq_query.proofs.values.+listed.Given as goal

-- the queries that are left make the whole
abbrev pub invariant-push_queries-loop-query : goal.invariant-push_queries-loop-query
invariant-push_queries-loop-query l =
    on_queries (with_values l.datapaths l.ports) (queries (map query_tree (drop l.query-index l.operands))) l.into.items
    ≡ on_queries (with_values l.datapaths l.ports) (queries (map query_tree l.operands)) l.initial.into.items
