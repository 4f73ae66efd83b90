use Rattle.std.proofs.Common.{◌+◌}
use Rattle.pq_apply.proofs.Places.{size_at}
use Rattle.pq_apply.proofs.combination.+combined.Given as goal

abbrev pub decreases-combined : goal.decreases-combined
decreases-combined g l = size_at l.store.now l.x + size_at l.store.now l.y
