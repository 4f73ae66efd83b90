use Rattle.pq_model.proofs.FreeOfOrder.{adds-free}
use Rattle.pq_model.proofs.blocks.adds_are_free_of_order.Goals as goal

pub returns : goal.returns
returns c = adds-free
