use Rattle.std.proofs.Common.{◌≡◌, map}
use Rattle.pq_query.specs.Query.{query_tree}
use Rattle.automaton_sizes.specs.Queries.{varied_atoms}
use Rattle.automaton_sizes.proofs.long_queries.varied_chain.Given as goal

-- the operands so far are the first atoms of the chain
abbrev pub invariant-loop-place : goal.invariant-loop-place
invariant-loop-place l = map query_tree l.operands.items ≡ varied_atoms l.fn.chain l.place
