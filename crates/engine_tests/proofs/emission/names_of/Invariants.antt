use Rattle.std.proofs.Common.{◌≡◌, ◌++◌, map, drop}
use Rattle.engine_tests.proofs.emission.names_of.Given as goal

abbrev pub invariant-loop-query : goal.invariant-loop-query
invariant-loop-query l = l.names.items ++ map (λ q. q.0) (drop l.query-index l.queries) ≡ map (λ q. q.0) l.queries
