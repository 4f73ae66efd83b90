use Rattle.pq_auto.specs.Leading.{AreLed}
use Rattle.pq_auto.proofs.leading.leaders.Given as goal

abbrev pub invariant-loop-round : goal.invariant-loop-round
invariant-loop-round l = AreLed l.table l.leaders.items
