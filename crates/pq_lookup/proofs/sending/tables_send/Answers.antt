use Rattle.pq_lookup.proofs.Arriving.{tables-send, tables-send_in_order}
use Rattle.pq_lookup.proofs.sending.tables_send.Goals as goal

pub returns : goal.returns
returns c = record { copies = tables-send; sends = tables-send_in_order }
