use Rattle.pq_speaker.proofs.Worlds.{renewals}
use Rattle.pq_speaker.proofs.laws.renewals_are_installed.Goals as goal

pub returns : goal.returns
returns c = renewals
