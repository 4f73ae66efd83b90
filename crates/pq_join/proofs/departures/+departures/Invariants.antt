use Rattle.pq_join.proofs.departures.+departures.Given as goal

abbrev pub decreases-departures : goal.decreases-departures
decreases-departures l = l.node
