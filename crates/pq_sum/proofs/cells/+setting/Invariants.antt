use Rattle.std.proofs.Common.{◌+◌, ◌*◌, length}
use Rattle.pq_sum.proofs.cells.+setting.Given as goal

abbrev pub decreases-set : goal.decreases-set
decreases-set g l = 2 * length l.cells.now

abbrev pub decreases-set_half : goal.decreases-set_half
decreases-set_half g l = 2 * (length l.front.now + length l.back.now) + 1
