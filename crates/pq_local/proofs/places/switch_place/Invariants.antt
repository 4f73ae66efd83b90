use Rattle.pq_local.proofs.Behind.{IsBehind}
use Rattle.pq_local.proofs.places.switch_place.Given as goal

-- what is reached says the same of the switch's packets
abbrev pub invariant-loop-test : goal.invariant-loop-test
invariant-loop-test l = IsBehind l.datapath l.store l.fn.node l.at

abbrev pub decreases-loop-test : goal.decreases-loop-test
decreases-loop-test l = l.at
