use Rattle.std.proofs.Common.{◌≡◌, take, map}
use Rattle.pq_auto.specs.Parts.{first_of}
use Rattle.pq_auto.proofs.leading.first_states.Given as goal

abbrev pub invariant-loop-class : goal.invariant-loop-class
invariant-loop-class l = l.leaders.items ≡ map (first_of l.parts) (take l.class-index l.class-items)
