use Rattle.pq_lookup.proofs.Renewed.{renewing}
use Rattle.pq_lookup.proofs.sending.renewing.Goals as goal

pub returns : goal.returns
returns c = renewing
