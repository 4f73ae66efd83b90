use Rattle.std.proofs.Common.{◌≡◌, map}
use Rattle.pq_query.specs.Query.{query_tree}
use Rattle.automaton_sizes.specs.Queries.{anything, entering, times}
use Rattle.automaton_sizes.proofs.long_queries.chain.Given as goal

-- each turn adds an atom, and the last operand stays
abbrev pub invariant-loop : goal.invariant-loop
invariant-loop l = (map query_tree l.operands.items ≡ times l.counter (entering anything)) × (l.last ≡ l.fn.last)
