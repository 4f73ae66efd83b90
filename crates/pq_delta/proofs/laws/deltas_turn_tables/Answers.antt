use Rattle.pq_delta.proofs.TurningLemmas.{delta-fits, delta-turns}
use Rattle.pq_delta.proofs.laws.deltas_turn_tables.Goals as goal

pub returns : goal.returns
returns c = record { turned = delta-turns; fit = delta-fits }
