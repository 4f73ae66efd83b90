use Rattle.pq_rewrite.proofs.sequence.+followed.Given as goal

abbrev pub decreases-followed : goal.decreases-followed
decreases-followed l = l.node
