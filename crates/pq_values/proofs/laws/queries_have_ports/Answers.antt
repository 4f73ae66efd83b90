use Rattle.std.proofs.lemmas.List.Elements.{All-nil}
use Rattle.pq_pred.specs.Named.{MayStand}
use Rattle.pq_policy.specs.Policy.{IsPolicyOver}
use Rattle.pq_values.proofs.Ported.{tests_ports}
use Rattle.pq_values.proofs.laws.queries_have_ports.Goals as goal

pub returns : goal.returns
returns c = λ T qs t named over only. tests_ports T qs (record { topology = named; policies = All-nil (IsPolicyOver (MayStand T)); queries = over }) t only
