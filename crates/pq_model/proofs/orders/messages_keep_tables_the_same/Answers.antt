use Rattle.pq_model.proofs.SameTables.{same-refl, same-sym, same-trans, same-applies}
use Rattle.pq_model.proofs.orders.messages_keep_tables_the_same.Goals as goal

pub returns : goal.returns
returns c = record { reflexive = same-refl; symmetric = same-sym; transitive = same-trans; kept = same-applies }
