use Rattle.std.proofs.Common.{◌≡◌, ◌∷◌, [], length}
use Rattle.pq_auto.specs.Leading.{leader_in}
use Rattle.pq_auto.specs.Parts.{IsParted}
use Rattle.pq_auto.proofs.leading.led.Given as goal

abbrev pub invariant-loop-state : goal.invariant-loop-state
invariant-loop-state l = IsParted (λ s. leader_in l.leaders.items s ∷ []) l.parts × (length l.parts.classes ≡ l.state)
