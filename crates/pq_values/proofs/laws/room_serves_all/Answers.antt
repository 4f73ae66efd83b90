use Rattle.pq_values.proofs.Serving.{each_fits, policies_fit, queries_fit}
use Rattle.pq_values.proofs.laws.room_serves_all.Goals as goal

pub returns : goal.returns
returns c = record { policies = policies_fit; policy = each_fits; queries = queries_fit }
