use Rattle.pq_model.proofs.FreeOfOrder.{deletes-free}
use Rattle.pq_model.proofs.blocks.deletes_are_free_of_order.Goals as goal

pub returns : goal.returns
returns c = deletes-free
