use Rattle.std.proofs.Common.{◌≡◌, ◌++◌, drop, map}
use Rattle.pq_auto.specs.Tables.{is_even_key, lists}
use Rattle.pq_auto.proofs.product.parities.Given as goal

abbrev pub invariant-loop-state : goal.invariant-loop-state
invariant-loop-state l = l.even.items ++ map is_even_key (lists (drop l.state-index l.states)) ≡ map is_even_key (lists l.states)
