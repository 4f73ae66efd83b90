use Rattle.pq_net.proofs.Opened.{opened_sends, opened_runs}
use Rattle.pq_net.proofs.laws.opened_networks_send_by_their_messages.Goals as goal

pub returns : goal.returns
returns c = record { sender = opened_sends; state = opened_runs }
