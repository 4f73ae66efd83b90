use Rattle.pq_flowmod.proofs.OneMessage.{one_message}
use Rattle.pq_flowmod.proofs.reading.no_message_begins_another.Goals as goal

-- by the parts of a spelling
pub returns : goal.returns
returns c = one_message
