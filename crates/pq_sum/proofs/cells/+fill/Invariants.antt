use Rattle.std.proofs.Common.{length}
use Rattle.pq_sum.proofs.cells.+fill.Given as goal

abbrev pub decreases-fill : goal.decreases-fill
decreases-fill g l = length l.cells.now
