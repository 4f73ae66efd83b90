use Rattle.std.proofs.Common.{◌≡◌, map}
use Rattle.pq_query.specs.Query.{query_tree}
use Rattle.automaton_sizes.specs.Queries.{varied_chains}
use Rattle.automaton_sizes.proofs.long_queries.union.Given as goal

-- the operands so far are the first chains
abbrev pub invariant-loop-chain : goal.invariant-loop-chain
invariant-loop-chain l = map query_tree l.operands.items ≡ varied_chains l.chain
