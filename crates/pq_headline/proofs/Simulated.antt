-- Switches that send as the layout says simulate the meaning.
use Rattle.std.proofs.Common.{◌≡◌, ◌≢◌, ◌∙◌, ◌<◌, ◌^◌, ℕ, true, false, if◌then◌else◌, List, [], ◌∷◌, ◌++◌, map, refl, sym, ap, subst, inl, inr, arith}
use Rattle.std.specs.Prelude.{IfSome, is_none}
use Rattle.std.specs.List.{AllByRecursion, flat_map}
use Rattle.std.specs.declared.option.Option.{Option}
use Rattle.std.specs.declared.option.Option.TheVariants.{None, Some}
use Rattle.std.proofs.lemmas.Bool.{and_parts}
use Rattle.std.proofs.lemmas.List.Elements.{All-nil}
use Rattle.pq_fields.specs.Packet.{Numbers, Fit}
use Rattle.pq_model.specs.Classes.{Languages, IsPath, has_even_length}
use Rattle.pq_model.specs.Events.{IsTagged}
use Rattle.pq_model.specs.MatchFields.{vlan_word}
use Rattle.pq_model.specs.Meaning.{Meaning, Item, Traced, Stranger, entered, entered_as, flown, item_packet, sightings}
use Rattle.pq_model.specs.Orders.{IsReordering}
use Rattle.pq_model.specs.Simulation.{HopAgrees, Pairwise, Simulates}
use Rattle.pq_model.specs.Sorting.{sort_by}
use Rattle.pq_model.specs.SwitchMachine.{in_order, to_controller, to_ports}
use Rattle.pq_model.specs.TablesMachine.{Report, Sender, carried_all, collected, delivered_of}
use Rattle.pq_model.specs.Tagged.{TaggedPacket, tagged_numbers}
use Rattle.pq_model.specs.Topology.{Topology, is_edge, is_port, peer}
use Rattle.pq_model.specs.Word.{Observation, Word, observed_packet}
use Rattle.pq_layout.specs.Actions.{tag_word}
use Rattle.pq_layout.specs.Emission.{report_of}
use Rattle.pq_layout.specs.Leaves.{Departures, arrive}
use Rattle.pq_layout.specs.Sending.{SendsAs, arrival_sent, copy_sent, sent_after}
use Rattle.pq_layout.specs.Tagging.{Tagging, tag_of}
use Rattle.pq_headline.specs.LaidOut.{IsLaidOut, IsStranger, IsTraced, Matches}
use Rattle.pq_headline.proofs.Collected.{collected_captured}
use Rattle.pq_headline.proofs.Copied.{all_copies, caught_of, controllers_in_order, copies_to_controller, copies_to_ports, departed_as, ports_in_order}
use Rattle.pq_headline.proofs.Departed.{departures_given, given_by}
use Rattle.pq_headline.proofs.LeavingPackets.{IsDeparting, all_departing}
use Rattle.pq_headline.proofs.Flights.{carried_match, delivered_same, departed_ascend}
use Rattle.pq_headline.proofs.Keys.{tagged_tell}
use Rattle.pq_headline.proofs.Paths.{entered_odd, entered_path, entered_tag}
use Rattle.pq_headline.proofs.Reordered.{reordering-map}
use Rattle.pq_headline.proofs.SortedTo.{ascending_rises, sorts_to}

-- each departing packet fits
all_fit : (T : Topology) (x : Numbers) (ys : List Numbers) → AllByRecursion (IsDeparting T x) ys → AllByRecursion Fit ys
all_fit T x [] leave = tt
all_fit T x (y ∷ ys) leave = (leave.0.fit, all_fit T x ys leave.1)

module _ (m : Meaning) (Ls : Languages) (g : Tagging) (writes : Departures) (send : Sender) (laid : IsLaidOut m.topology m Ls g writes)
    (sends : SendsAs m.topology g writes send) where
  abbrev T : Topology
  T = m.topology

  abbrev report : Report
  report = report_of g m.instances

  all_leave : (x : Numbers) → Fit x → AllByRecursion (IsDeparting T x) (m.departs x)
  all_leave x fit = all_departing T m x (writes x) fit (laid.departs x fit) (laid.departures x fit)

  given_mixed : (x : Numbers) → Fit x → IsReordering (given_by x (writes x)) (m.departs x)
  given_mixed x fit = departures_given x (m.departs x) (writes x) (laid.departs x fit).ascend (laid.departures x fit)

  module _ (w : Word) (y : TaggedPacket) (traced : IsTraced T g w y.packet y) where
    abbrev x : Numbers
    x = y.packet

    -- the tag of the path up to this arrival
    abbrev here : ℕ
    here = tag_of g (entered w x)

    path : IsPath (entered w x)
    path = entered_path w x traced.path traced.even traced.fit

    odd : has_even_length (entered w x) ≡ false
    odd = entered_odd w x traced.path traced.even traced.fit

    is_tagged : IsTagged y
    is_tagged = record {
      packet = traced.fit;
      vlan = elim traced.tag [
        | inl plain ↦ subst (λ (v : Option ℕ). IfSome v (λ t. t < 2 ^ 12)) (sym plain.2) tt
        | inr tagged ↦ subst (λ (v : Option ℕ). IfSome v (λ t. t < 2 ^ 12)) (sym tagged.1)
            (omega (arith, laid.few, (laid.tagging.tagged w traced.path).within.1))
      ];
    }

    -- table 0 takes the packet, and gives it the tag of its path
    arrives : sends.first (vlan_word y.vlan) x ≡ Some (arrive g here)
    arrives = elim traced.tag [
      | inl plain ↦
          ap (λ (v : Option ℕ). sends.first (vlan_word v) x) plain.2
          ∙ sends.plain x traced.fit
          ∙ ap (λ b. if b then Some (arrive g (g.after 1 x)) else None) plain.1
          ∙ ap (λ v. Some (arrive g (tag_of g (entered v x)))) (sym plain.0)
      | inr tagged ↦
          let told = laid.tagging.tagged w traced.path in
          ap (λ (v : Option ℕ). sends.first (vlan_word v) x) tagged.1
          ∙ sends.tagged x traced.fit (tag_of g w) told.within.0 told.within.1 (told.even ∙ traced.even)
          ∙ ap (λ b. if b then Some (arrive g (g.after (tag_of g w) x)) else None) tagged.0
          ∙ ap (λ t. Some (arrive g t)) (sym (entered_tag g w x))
    ]

    -- table 1 says what the layout states of the tag
    leaves : sends.second (tag_word here) x ≡ Rattle.pq_layout.specs.Leaves.leaving T g writes here x
    leaves =
        let told = laid.tagging.tagged (entered w x) path in
        sends.leaves x traced.fit here told.within.0 told.within.1 (told.even ∙ odd)

    sent : send y ≡ in_order (all_copies T g here x (writes x))
    sent =
        sends.sends y is_tagged traced.port
        ∙ ap (λ a. in_order (sent_after sends.second x a)) arrives
        ∙ ap (λ cs. in_order (arrival_sent x (arrive g here) ++ map (copy_sent x) cs)) leaves

    ports : to_ports (send y) ≡ map (departed_as T g here) (m.departs x)
    ports =
        let departed = departed_as T g here in
        let given = given_by x (writes x) in
        ap to_ports sent
        ∙ ports_in_order (all_copies T g here x (writes x))
        ∙ ap (sort_by tagged_numbers) (copies_to_ports T g here x (writes x))
        ∙ sorts_to tagged_numbers tagged_tell (map departed given) (map departed (m.departs x))
        (reordering-map departed given (m.departs x) (given_mixed x traced.fit))
        (ascending_rises tagged_numbers (map departed (m.departs x)) (departed_ascend T g here (m.departs x) (laid.departs x traced.fit).ascend))

    controllers : to_controller (send y) ≡ sort_by tagged_numbers (flat_map (caught_of g) (sightings (entered w x) x (given_by x (writes x))))
    controllers =
        ap to_controller sent
        ∙ controllers_in_order (all_copies T g here x (writes x))
        ∙ ap (sort_by tagged_numbers) (copies_to_controller T g (entered w x) x (writes x))

    traced_hop : HopAgrees m report send (Matches T g) (Traced w x) y
    traced_hop =
        let leave = all_leave x traced.fit in
        let fits = all_fit T x (m.departs x) leave in
        record {
          flight = subst (λ l. Pairwise (Matches T g) (flown m (Traced w x)) (carried_all T l)) (sym ports)
              (carried_match T laid.lawful g (entered w x) path odd (m.departs x) fits);
          delivered = ap (delivered_of T) ports ∙ delivered_same T g here x (m.departs x) leave;
          buckets = ap (collected report) controllers
              ∙ collected_captured m Ls g laid.tagging laid.languages laid.instances (entered w x) x path odd traced.fit
              (given_by x (writes x)) (m.departs x) fits (given_mixed x traced.fit);
        }

  module _ (y : TaggedPacket) (stranger : IsStranger T y.packet y) where
    strange_tagged : IsTagged y
    strange_tagged = record { packet = stranger.fit; vlan = subst (λ (v : Option ℕ). IfSome v (λ t. t < 2 ^ 12)) (sym stranger.header) stranger.short }

    -- nothing is sent for a stranger
    nothing : send y ≡ []
    nothing =
        let port = (and_parts (is_port T y.packet.switch y.packet.port) (is_none (peer T y.packet.switch y.packet.port)) stranger.edge).0 in
        let other : tag_word stranger.number ≢ 0 = omega arith in
        sends.sends y strange_tagged port
        ∙ ap (λ a. in_order (sent_after sends.second y.packet a))
        (ap (λ (v : Option ℕ). sends.first (vlan_word v) y.packet) stranger.header
        ∙ sends.strange y.packet stranger.fit stranger.edge (tag_word stranger.number) other)

    stranger_hop : HopAgrees m report send (Matches T g) (Stranger y.packet) y
    stranger_hop = record {
      flight = subst (λ l. Pairwise (Matches T g) [] (carried_all T (to_ports l))) (sym nothing) tt;
      delivered = ap (λ l. delivered_of T (to_ports l)) nothing;
      buckets = ap (λ l. collected report (to_controller l)) nothing;
    }

  hop_agrees : (i : Item) (y : TaggedPacket) → Matches T g i y → HopAgrees m report send (Matches T g) i y
  hop_agrees (Traced w x) y traced =
      subst (λ z. HopAgrees m report send (Matches T g) (Traced w z) y) traced.packet
      (traced_hop w y (subst (λ z. IsTraced T g w z y) (sym traced.packet) traced))
  hop_agrees (Stranger x) y stranger =
      subst (λ z. HopAgrees m report send (Matches T g) (Stranger z) y) stranger.packet
      (stranger_hop y (subst (λ z. IsStranger T z y) (sym stranger.packet) stranger))

  same_packet : (i : Item) (y : TaggedPacket) → Matches T g i y → y.packet ≡ item_packet i
  same_packet (Traced w x) y traced = traced.packet
  same_packet (Stranger x) y stranger = stranger.packet

  enters_as : (y : TaggedPacket) → IsTagged y → is_edge T y.packet.switch y.packet.port ≡ true → (v : Option ℕ) → y.vlan ≡ v → Matches T g (entered_as y v) y
  enters_as y tagged edge None is = record {
    packet = refl;
    fit = tagged.packet;
    path = (refl, All-nil (λ (o : Observation). Fit (observed_packet o)));
    even = refl;
    port = (and_parts (is_port T y.packet.switch y.packet.port) (is_none (peer T y.packet.switch y.packet.port)) edge).0;
    tag = inl (refl, edge, is);
  }
  enters_as y tagged edge (Some t) is = record {
    packet = refl;
    fit = tagged.packet;
    edge = edge;
    number = t;
    header = is;
    short = subst (λ (v : Option ℕ). IfSome v (λ t. t < 2 ^ 12)) is tagged.vlan;
  }

  simulates : Simulates m report send (Matches T g)
  simulates = record { packets = same_packet; enters = λ y tagged edge. enters_as y tagged edge y.vlan refl; hops = hop_agrees }

-- one hop of each packet in flight adds what the meaning adds
pub simulated : (T : Topology) (m : Meaning) (Ls : Languages) (g : Tagging) (writes : Departures) (send : Sender)
    → IsLaidOut T m Ls g writes → SendsAs T g writes send → Simulates m (report_of g m.instances) send (Matches T g)
simulated T m Ls g writes send laid sends =
    subst (λ U. IsLaidOut U m Ls g writes → SendsAs U g writes send
    → Simulates m (report_of g m.instances) send (Matches U g)) laid.topology (simulates m Ls g writes send) laid sends
