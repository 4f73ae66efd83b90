use Rattle.std.proofs.Common.{length}
use Rattle.pq_join.proofs.departures.+departures_of_each.Given as goal

abbrev pub decreases-departures_of_each : goal.decreases-departures_of_each
decreases-departures_of_each l = length l.list.now
