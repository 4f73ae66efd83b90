use Rattle.pq_model.proofs.Renewals.{renewal-same, renewal-sends}
use Rattle.pq_model.proofs.renewal.renewals_leave_what_they_add.Goals as goal

pub returns : goal.returns
returns c = record { left = renewal-same; sent = renewal-sends }
