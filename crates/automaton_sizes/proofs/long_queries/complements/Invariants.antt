use Rattle.std.proofs.Common.{◌≡◌}
use Rattle.pq_query.specs.Query.{query_tree}
use Rattle.automaton_sizes.specs.Queries.{turned}
use Rattle.automaton_sizes.proofs.long_queries.complements.Given as goal

-- each turn adds a complement
abbrev pub invariant-loop : goal.invariant-loop
invariant-loop l = query_tree l.query ≡ turned l.counter
