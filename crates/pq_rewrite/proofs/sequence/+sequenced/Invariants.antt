use Rattle.pq_rewrite.proofs.sequence.+sequenced.Given as goal

abbrev pub decreases-sequenced : goal.decreases-sequenced
decreases-sequenced l = l.node
