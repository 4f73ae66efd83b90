use Rattle.std.proofs.Common.{◌+◌}
use Rattle.pq_apply.proofs.Places.{size_at}
use Rattle.pq_apply.proofs.products.+paired.Given as goal

abbrev pub decreases-paired : goal.decreases-paired
decreases-paired g l = size_at l.left.now l.x + size_at l.right.now l.y
