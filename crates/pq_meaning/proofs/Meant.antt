-- What is laid out for a meaning.
use Rattle.std.proofs.Common.{◌≡◌, ◌∙◌, ◌+◌, ◌<◌, ℕ, true, List, [], ◌∷◌, length, get_or, Some, sym, ap, subst, arith}
use Rattle.std.specs.Prelude.{slice_get}
use Rattle.std.specs.List.{Contains}
use Rattle.std.proofs.lemmas.List.Elements.{recursion_from_All}
use Rattle.std.proofs.lemmas.Option.{get_or_from_slice_get, slice_get_within}
use Rattle.pq_fields.specs.Packet.{Fit, Numbers, is_before, numbers}
use Rattle.pq_model.specs.Buckets.{Instance, instance_numbers}
use Rattle.pq_model.specs.Classes.{IsPath}
use Rattle.pq_model.specs.Install.{AscendsBy, IsLawfulTopology}
use Rattle.pq_model.specs.Meaning.{Meaning}
use Rattle.pq_model.specs.Topology.{Topology}
use Rattle.pq_model.specs.Word.{Word}
use Rattle.pq_policy.specs.Policy.{IsInPacketOrder, PolicyTree}
use Rattle.pq_query.specs.Instances.{instances_of}
use Rattle.pq_query.specs.Languages.{IsHeld}
use Rattle.pq_query.specs.Query.{QueryTree}
use Rattle.pq_query.proofs.Listed.{instances_below}
use Rattle.pq_lists.proofs.Places.{at_place}
use Rattle.pq_rewrite.proofs.Sets.{given_same}
use Rattle.pq_layout.specs.Leaves.{AreDepartures, Departures}
use Rattle.pq_layout.specs.Tagging.{Tagging}
use Rattle.pq_headline.specs.LaidOut.{DepartsInOrder, IsAccepted, IsLaidOut}
use Rattle.pq_meaning.specs.Compiled.{IsLaid}
use Rattle.pq_meaning.specs.Meaning.{IsMeaning, departs}
use Rattle.pq_meaning.proofs.InstancesAscend.{instances_ascend}

-- packets in packet order ascend
ascends_in_order : (xs : List Numbers) → IsInPacketOrder xs → AscendsBy numbers xs
ascends_in_order [] ordered = tt
ascends_in_order (x ∷ []) ordered = tt
ascends_in_order (x ∷ y ∷ ys) ordered = (
  (recursion_from_All (λ z. is_before (numbers x) (numbers z) ≡ true) (y ∷ ys) ordered.0).0,
  ascends_in_order (y ∷ ys) ordered.1,
)

-- the query of an instance is one of the document's
query_of : (T : Topology) (qs : List QueryTree) (i : ℕ) (inst : Instance) → slice_get (instances_of T qs) i ≡ Some inst
    → (q : QueryTree) × (slice_get qs inst.query ≡ Some q)
query_of T qs i inst at = at_place qs inst.query (below (slice_get_within (instances_of T qs) i inst at))
  where
    below : i < length (instances_of T qs) → inst.query < length qs
    below within =
        let all = instances_below T 0 qs in
        let first : (get_or (instances_of T qs) i inst).query < 0 + length qs = all i inst within in
        let is : get_or (instances_of T qs) i inst ≡ inst = get_or_from_slice_get (instances_of T qs) i inst inst at in
        subst (λ j. j.query < length qs) is (omega (arith, first))

module _ (T : Topology) (ps : List PolicyTree) (qs : List QueryTree) (m : Meaning) (meaning : IsMeaning T ps qs m) where
  -- the instance that a query's word is held by accepts it
  accepted : (i : ℕ) (w : Word) → IsPath w → IsHeld qs (instances_of T qs) i w → IsAccepted m i w
  accepted i w path held =
      let at : slice_get m.instances i ≡ Some held.instance = ap (λ is. slice_get is i) meaning.instances ∙ held.at in
      (held.instance, at, (meaning.accepts i held.instance at held.query held.asked w path).1 held.holds)

  -- and what an instance accepts its query holds
  held_by : (i : ℕ) (w : Word) → IsPath w → IsAccepted m i w → IsHeld qs (instances_of T qs) i w
  held_by i w path (inst, at, accepts) =
      let there : slice_get (instances_of T qs) i ≡ Some inst = ap (λ is. slice_get is i) (sym meaning.instances) ∙ at in
      let asked = query_of T qs i inst there in
      record { instance = inst; at = there; query = asked.0; asked = asked.1; holds = (meaning.accepts i inst at asked.0 asked.1 w path).0 accepts }

  -- departures are in packet order, each at a port of the switch
  in_order : (x : Numbers) → Fit x → DepartsInOrder T m x
  in_order x fit =
      let list = meaning.departures x fit in
      record { ascend = ascends_in_order (m.departs x) list.ordered; ports = λ y there. ((list.exact y).0 there).1 }

  module _ (lawful : IsLawfulTopology T) (g : Tagging) (writes : Departures) (laid : IsLaid T ps qs g writes) where
    departures : AreDepartures (λ x y. Contains (m.departs x) y) writes
    departures x fit =
        let list = meaning.departures x fit in
        given_same x (departs T ps x) (λ y. Contains (m.departs x) y) (writes x) (λ y. let same = list.exact y in (same.1, same.0)) (laid.departures x fit)

    pub laid_out : IsLaidOut T m (IsHeld qs (instances_of T qs)) g writes
    laid_out = record {
      topology = meaning.topology;
      lawful = lawful;
      departs = in_order;
      departures = departures;
      languages = λ i w path. (accepted i w path, held_by i w path);
      instances = subst (AscendsBy instance_numbers) (sym meaning.instances) (instances_ascend T qs);
      tagging = laid.tagging;
      few = laid.few;
    }
