use Rattle.std.proofs.Common.{[], ◌∷◌, All}
use Rattle.std.proofs.lemmas.List.Elements.{All-nil, All-cons, All-head}
use Rattle.pq_model.specs.Topology.{Topology}
use Rattle.pq_pred.specs.Named.{MayStand}
use Rattle.pq_policy.specs.Policy.{IsPolicyOver, PolicyTree}
use Rattle.pq_query.specs.Lawful.{IsQueryOver}
use Rattle.pq_forward.specs.Forward.{IsPolicyWithin}
use Rattle.pq_values.proofs.Ported.{has_ports}
use Rattle.pq_values.proofs.Serving.{together}
use Rattle.pq_values.proofs.laws.policies_have_ports.Goals as goal

one : (T : Topology) (p : PolicyTree) → IsPolicyOver (MayStand T) p → All (IsPolicyOver (MayStand T)) (p ∷ [])
one T p over = All-cons (IsPolicyOver (MayStand T)) p [] over (All-nil (IsPolicyOver (MayStand T)))

pub returns : goal.returns
returns c = record {
  policy = λ T p t named over is.
      has_ports T (p ∷ []) (record { topology = named; policies = one T p over; queries = All-nil (IsQueryOver (MayStand T)) }) t
      (λ ns topology within. is.covers ns topology (All-head (IsPolicyWithin ns) p [] within));
  policies = λ T ps joint t named over is.
      has_ports T ps (record { topology = named; policies = over; queries = All-nil (IsQueryOver (MayStand T)) }) t
      (λ ns topology within. is.covers ns topology (together ns ps within));
}
