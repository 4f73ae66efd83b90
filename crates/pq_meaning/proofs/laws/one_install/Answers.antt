use Rattle.pq_meaning.proofs.OneInstall.{one_install}
use Rattle.pq_meaning.proofs.laws.one_install.Goals as goal

pub returns : goal.returns
returns c = one_install
