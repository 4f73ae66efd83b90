use Rattle.std.proofs.Common.{length}
use Rattle.pq_letters.proofs.signing.+signed_node.Given as goal

abbrev pub decreases-signed_node : goal.decreases-signed_node
decreases-signed_node l = length l.preds.now
