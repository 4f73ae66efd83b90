use Rattle.pq_speaker.proofs.Worlds.{installed}
use Rattle.pq_speaker.proofs.laws.installed_means_processed.Goals as goal

pub returns : goal.returns
returns c = installed
