use Rattle.pq_store.proofs.Ignored.{prerequisites_first}
use Rattle.pq_store.proofs.laws.prerequisites_stand_first.Goals as goal

pub returns : goal.returns
returns g c = prerequisites_first
