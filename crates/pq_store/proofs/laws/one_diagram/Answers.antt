use Rattle.pq_store.proofs.Canonical.{one_diagram}
use Rattle.pq_store.proofs.laws.one_diagram.Goals as goal

pub returns : goal.returns
returns g c = one_diagram
