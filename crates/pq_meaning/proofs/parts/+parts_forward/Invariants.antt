use Rattle.std.proofs.Common.{length}
use Rattle.pq_meaning.proofs.parts.+parts_forward.Given as goal

-- proposed from what the function passes where it calls itself
abbrev pub decreases-parts_forward : goal.decreases-parts_forward
decreases-parts_forward g l = length l.parts.now
