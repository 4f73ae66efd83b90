use Rattle.pq_install.proofs.Renamed.{spelled_stands}
use Rattle.pq_install.proofs.laws.damaged_bytes_begin_with_no_install.Goals as goal

pub returns : goal.returns
returns c bytes at n i damaged spelled = spelled_stands bytes at n i damaged spelled
