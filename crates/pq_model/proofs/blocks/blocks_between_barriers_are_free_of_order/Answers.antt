use Rattle.pq_model.proofs.FreeOfOrder.{free-parted}
use Rattle.pq_model.proofs.blocks.blocks_between_barriers_are_free_of_order.Goals as goal

pub returns : goal.returns
returns c = free-parted
