use Rattle.std.proofs.Common.{length}
use Rattle.pq_rewrite.proofs.settled.+settled_from.Given as goal

-- proposed from what the function passes where it calls itself
abbrev pub decreases-settled_from : goal.decreases-settled_from
decreases-settled_from l = length l.fields.now
