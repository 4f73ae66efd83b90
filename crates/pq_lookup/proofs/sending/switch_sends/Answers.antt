use Rattle.pq_lookup.proofs.Renewed.{switch-sends}
use Rattle.pq_lookup.proofs.sending.switch_sends.Goals as goal

pub returns : goal.returns
returns c = switch-sends
