use Rattle.pq_apply.proofs.restriction.+restricted.Given as goal

abbrev pub decreases-restricted : goal.decreases-restricted
decreases-restricted g l = l.node
