use Rattle.pq_join.proofs.Fronts.{IsReached}
use Rattle.pq_join.proofs.choices.at_number.Given as goal

-- the restriction of what is reached is that of the whole
abbrev pub invariant-loop-test : goal.invariant-loop-test
invariant-loop-test g l = IsReached l.field l.value l.store l.fn.node l.at

abbrev pub decreases-loop-test : goal.decreases-loop-test
decreases-loop-test g l = l.at
