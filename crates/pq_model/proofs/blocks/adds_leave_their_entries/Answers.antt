use Rattle.pq_model.proofs.FreeOfOrder.{adds-leave}
use Rattle.pq_model.proofs.blocks.adds_leave_their_entries.Goals as goal

pub returns : goal.returns
returns c = adds-leave
