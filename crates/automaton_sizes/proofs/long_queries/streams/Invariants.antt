use Rattle.std.proofs.Common.{◌≡◌, map}
use Rattle.pq_query.specs.Query.{query_tree}
use Rattle.automaton_sizes.specs.Queries.{any_packets, times}
use Rattle.automaton_sizes.proofs.long_queries.streams.Given as goal

-- each turn adds an operand
abbrev pub invariant-loop : goal.invariant-loop
invariant-loop l = map query_tree l.operands.items ≡ times l.counter any_packets
