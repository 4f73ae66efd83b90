use Rattle.std.proofs.Common.{length}
use Rattle.pq_apply.proofs.junction.+junction.Given as goal

abbrev pub decreases-junction : goal.decreases-junction
decreases-junction l = length l.operands.now
