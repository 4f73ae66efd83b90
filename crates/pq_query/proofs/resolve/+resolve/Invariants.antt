use Rattle.std.proofs.Common.{◌≡◌, ◌++◌, map, drop, Ok}
use Rattle.pq_tree.specs.Trees.{trees}
use Rattle.pq_topo.specs.Naming.{gathered, next}
use Rattle.pq_query.specs.Query.{query_tree}
use Rattle.pq_query.specs.Resolved.{query_readings}
use Rattle.pq_query.proofs.resolve.+resolve.Given as goal

abbrev pub invariant-resolve_all-loop-term : goal.invariant-resolve_all-loop-term
invariant-resolve_all-loop-term l = next (gathered (query_readings l.topology l.bytes (trees (drop l.term-index l.terms))))
    (λ qs. Ok (map query_tree l.found.items ++ qs)) ≡ gathered (query_readings l.topology l.bytes (trees l.terms))
