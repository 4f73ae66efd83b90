use Rattle.std.proofs.Common.{length}
use Rattle.pq_rewrite.proofs.sequence.+written_in_turn.Given as goal

abbrev pub decreases-written_in_turn : goal.decreases-written_in_turn
decreases-written_in_turn l = length l.second.now
