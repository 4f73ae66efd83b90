use Rattle.pq_install.proofs.Exclusion.{one_install}
use Rattle.pq_install.proofs.laws.bytes_begin_with_one_install.Goals as goal

pub returns : goal.returns
returns c bytes rest more i j one other = one_install bytes i j rest more one other
