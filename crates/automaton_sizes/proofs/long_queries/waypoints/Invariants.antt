use Rattle.std.proofs.Common.{◌≡◌, map}
use Rattle.pq_query.specs.Query.{query_tree}
use Rattle.automaton_sizes.specs.Queries.{passing}
use Rattle.automaton_sizes.proofs.long_queries.waypoints.Given as goal

-- the operands so far pass the first switches
abbrev pub invariant-loop-passed : goal.invariant-loop-passed
invariant-loop-passed l = map query_tree l.operands.items ≡ passing l.passed
