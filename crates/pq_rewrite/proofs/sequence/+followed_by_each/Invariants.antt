use Rattle.std.proofs.Common.{length}
use Rattle.pq_rewrite.proofs.sequence.+followed_by_each.Given as goal

abbrev pub decreases-followed_by_each : goal.decreases-followed_by_each
decreases-followed_by_each l = length l.first.now
