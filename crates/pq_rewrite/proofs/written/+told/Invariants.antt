use Rattle.pq_rewrite.proofs.written.+told.Given as goal

abbrev pub decreases-told : goal.decreases-told
decreases-told g l = l.node
