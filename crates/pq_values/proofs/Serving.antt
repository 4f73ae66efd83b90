-- Room for all numbers of a document is room for those of its policies and of its queries.
use Rattle.std.proofs.Common.{ℕ, List, [], ◌∷◌, All}
use Rattle.std.proofs.lemmas.List.Elements.{All-head, All-tail, All-weaker}
use Rattle.pq_fields.specs.declared.field.Field.{Field}
use Rattle.pq_model.specs.Topology.{Topology}
use Rattle.pq_policy.specs.Policy.{PolicyTree, policies}
use Rattle.pq_query.specs.Query.{QueryTree}
use Rattle.pq_store.proofs.RoomLemmas.{room_for}
use Rattle.pq_forward.specs.Forward.{ArePoliciesWithin, FitAsForward, FitAsForwards, IsPolicyWithin}
use Rattle.pq_classes.specs.Room.{FitAsQueries}
use Rattle.pq_values.specs.Room.{HaveRoom}

-- policies that are each within some numbers are so together
pub together : (ns : Field → List ℕ) (ps : List PolicyTree) → All (IsPolicyWithin ns) ps → ArePoliciesWithin ns (policies ps)
together ns [] within = tt
together ns (p ∷ ps) within =
    let own : IsPolicyWithin ns p = All-head (IsPolicyWithin ns) p ps within in
    (own.0, own.1, together ns ps (All-tail (IsPolicyWithin ns) p ps within))

pub policies_fit : (T : Topology) (ps : List PolicyTree) (qs : List QueryTree) → HaveRoom T ps qs → FitAsForwards T (policies ps)
policies_fit T ps qs = room_for (λ ns within. (within.topology, together ns ps within.policies))

pub each_fits : (T : Topology) (ps : List PolicyTree) (qs : List QueryTree) → HaveRoom T ps qs → All (FitAsForward T) ps
each_fits T ps qs room =
    let ns = room.numbers in
    All-weaker (IsPolicyWithin ns) (FitAsForward T)
    (λ p within. record { numbers = ns; few = room.few; within = (room.within.topology, within) }) ps room.within.policies

pub queries_fit : (T : Topology) (ps : List PolicyTree) (qs : List QueryTree) → HaveRoom T ps qs → FitAsQueries T qs
queries_fit T ps qs = room_for (λ ns within. (within.dropped, within.queries))
