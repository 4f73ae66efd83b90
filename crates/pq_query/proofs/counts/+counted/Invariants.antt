use Rattle.std.proofs.Common.{◌≡◌, drop, map}
use Rattle.pq_query.specs.Counts.{on_queries, times}
use Rattle.pq_query.specs.Query.{queries, query_tree}
use Rattle.pq_query.proofs.counts.+counted.Given as goal

-- the queries that are left make the whole of the product
abbrev pub invariant-times_queries-loop-query : goal.invariant-times_queries-loop-query
invariant-times_queries-loop-query l = on_queries (times l.sizes) (queries (map query_tree (drop l.query-index l.operands))) l.product
    ≡ on_queries (times l.sizes) (queries (map query_tree l.operands)) l.count
