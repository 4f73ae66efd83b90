use Rattle.std.proofs.Common.{length}
use Rattle.pq_sum.proofs.cells.+leaf_at.Given as goal

abbrev pub decreases-leaf_at : goal.decreases-leaf_at
decreases-leaf_at l = length l.cells.now
