use Rattle.pq_model.proofs.FreeOfOrder.{puts-free}
use Rattle.pq_model.proofs.blocks.group_mods_are_free_of_order.Goals as goal

pub returns : goal.returns
returns c = puts-free
