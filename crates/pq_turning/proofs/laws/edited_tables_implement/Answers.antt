use Rattle.pq_turning.proofs.Done.{done, edited_done}
use Rattle.pq_turning.proofs.laws.edited_tables_implement.Goals as goal

pub returns : goal.returns
returns c = record { tables = done; edited = edited_done c.deltas_turn_tables.ensures.turned }
