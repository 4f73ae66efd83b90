use Rattle.pq_delta.proofs.MessagesLemmas.{lawful_install_delta}
use Rattle.pq_delta.proofs.laws.deltas_are_lawful.Goals as goal

pub returns : goal.returns
returns c = lawful_install_delta
