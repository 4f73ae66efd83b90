use Rattle.pq_model.proofs.Sending.{sends-same}
use Rattle.pq_model.proofs.orders.same_tables_send_the_same.Goals as goal

pub returns : goal.returns
returns c = sends-same
