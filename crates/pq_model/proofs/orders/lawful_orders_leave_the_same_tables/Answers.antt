use Rattle.pq_model.proofs.LawfulOrders.{lawful-same}
use Rattle.pq_model.proofs.orders.lawful_orders_leave_the_same_tables.Goals as goal

pub returns : goal.returns
returns c = lawful-same
