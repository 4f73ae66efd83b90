use Rattle.std.proofs.Common.{◌≡◌, ◌++◌, take}
use Rattle.std.specs.Prelude.{map}
use Rattle.pq_auto.specs.Leading.{leader_in}
use Rattle.pq_auto.proofs.refinement.push_classes.Given as goal

abbrev pub invariant-loop-state : goal.invariant-loop-state
invariant-loop-state l = l.out.items ≡ l.initial.out.items ++ map (leader_in l.classes) (take l.state-index l.states)
