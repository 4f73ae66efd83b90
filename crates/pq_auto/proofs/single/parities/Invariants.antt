use Rattle.std.proofs.Common.{◌≡◌, ◌++◌, drop, map}
use Rattle.pq_auto.specs.Rests.{rests}
use Rattle.pq_auto.proofs.single.parities.Given as goal

abbrev pub invariant-loop-state : goal.invariant-loop-state
invariant-loop-state l = l.even.items ++ map (λ r. r.even) (rests (drop l.state-index l.states)) ≡ map (λ r. r.even) (rests l.states)
