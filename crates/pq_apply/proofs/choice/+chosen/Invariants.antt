use Rattle.std.proofs.Common.{◌+◌}
use Rattle.pq_apply.proofs.Places.{size_at}
use Rattle.pq_apply.proofs.choice.+chosen.Given as goal

abbrev pub decreases-chosen : goal.decreases-chosen
decreases-chosen g l = size_at l.tests.now l.cond + size_at l.store.now l.yes + size_at l.store.now l.no
