use Rattle.std.proofs.Common.{◌≡◌, ◌++◌, drop, map}
use Rattle.pq_auto.specs.Rests.{held, rests}
use Rattle.pq_auto.proofs.single.acceptances.Given as goal

abbrev pub invariant-loop-state : goal.invariant-loop-state
invariant-loop-state l = map (λ places. places.items) l.all.items ++ map held (rests (drop l.state-index l.states)) ≡ map held (rests l.states)
