-- The copies that are sent for a packet of which the tables say what the layout states: to ports, and to the collector.
use Rattle.std.proofs.Common.{◌≡◌, ◌∙◌, ℕ, Bool, true, false, if◌then◌else◌, List, [], ◌∷◌, ◌++◌, map, append-nil, refl, sym, ap}
use Rattle.std.specs.declared.option.Option.TheVariants.{None, Some}
use Rattle.std.specs.List.{flat_map}
use Rattle.std.proofs.lemmas.List.Elements.{filter_map-append}
use Rattle.pq_fields.specs.Packet.{Numbers}
use Rattle.pq_fields.specs.Writes.{Written, no_writes, on}
use Rattle.pq_model.specs.declared.tagged.Sent.{Sent}
use Rattle.pq_model.specs.declared.tagged.Sent.TheVariants.{Port, Controller}
use Rattle.pq_model.specs.Meaning.{Sighting, leavings, sightings}
use Rattle.pq_model.specs.Sorting.{sort_by}
use Rattle.pq_model.specs.SwitchMachine.{controller_copy, in_order, port_copy, to_controller, to_ports}
use Rattle.pq_model.specs.Tagged.{TaggedPacket, tagged_numbers}
use Rattle.pq_model.specs.Topology.{Topology, is_linked}
use Rattle.pq_model.specs.Word.{Out, Word}
use Rattle.pq_rewrite.specs.declared.outgoing.OutKind.TheVariants.{CaptureOut}
use Rattle.pq_rewrite.specs.declared.outgoing.Outgoing.{Outgoing}
use Rattle.pq_rewrite.proofs.Diffs.{on_none}
use Rattle.pq_layout.specs.Leaves.{arrive, capture_of, copies_by, copies_of}
use Rattle.pq_layout.specs.Sending.{arrival_sent, copy_sent}
use Rattle.pq_layout.specs.Tagging.{Tagging, captures, tag_of}
use Rattle.pq_headline.proofs.Departed.{given_by}
use Rattle.pq_headline.proofs.Paths.{left_tag}

-- Copies in order.

ports_are : (ps : List TaggedPacket) → to_ports (map Port ps) ≡ ps
ports_are [] = refl
ports_are (p ∷ ps) = ap (λ l. p ∷ l) (ports_are ps)

no_ports : (cs : List TaggedPacket) → to_ports (map Controller cs) ≡ []
no_ports [] = refl
no_ports (c ∷ cs) = no_ports cs

controllers_are : (cs : List TaggedPacket) → to_controller (map Controller cs) ≡ cs
controllers_are [] = refl
controllers_are (c ∷ cs) = ap (λ l. c ∷ l) (controllers_are cs)

no_controllers : (ps : List TaggedPacket) → to_controller (map Port ps) ≡ []
no_controllers [] = refl
no_controllers (p ∷ ps) = no_controllers ps

pub ports_in_order : (sent : List Sent) → to_ports (in_order sent) ≡ sort_by tagged_numbers (to_ports sent)
ports_in_order sent =
    let ps = sort_by tagged_numbers (to_ports sent) in
    let cs = sort_by tagged_numbers (to_controller sent) in
    filter_map-append port_copy (map Port ps) (map Controller cs) ∙ (λ i. ports_are ps i ++ no_ports cs i) ∙ append-nil ps

pub controllers_in_order : (sent : List Sent) → to_controller (in_order sent) ≡ sort_by tagged_numbers (to_controller sent)
controllers_in_order sent =
    let ps = sort_by tagged_numbers (to_ports sent) in
    let cs = sort_by tagged_numbers (to_controller sent) in
    filter_map-append controller_copy (map Port ps) (map Controller cs) ∙ (λ i. no_controllers ps i ++ controllers_are cs i)

-- the copies for a packet with these writes, of an arrival with this tag
abbrev pub all_copies : Topology → Tagging → ℕ → Numbers → List Written → List Sent
all_copies T g a x ws = arrival_sent x (arrive g a) ++ map (copy_sent x) (copies_of T g a x ws)

-- To ports.

-- a departure with its header: the tag after it where its port is linked
abbrev pub departed_as : Topology → Tagging → ℕ → Numbers → TaggedPacket
departed_as T g a y = record { packet = y; vlan = if is_linked T y.switch y.port then Some (g.after a y) else None }

module _ (T : Topology) (g : Tagging) (a : ℕ) (x : Numbers) where
  captured_to_no_port : (w : Written) (b : ℕ) (cs : List Outgoing) → to_ports (map (copy_sent x) (capture_of g w b ++ cs)) ≡ to_ports (map (copy_sent x) cs)
  captured_to_no_port w b cs = by (captures g b)
    where
      by : (c : Bool) → to_ports (map (copy_sent x) ((if c then record { writes = w; tag = Some b; kind = CaptureOut } ∷ [] else []) ++ cs))
          ≡ to_ports (map (copy_sent x) cs)
      by true = refl
      by false = refl

  each_to_port : (ws : List Written) → to_ports (map (copy_sent x) (flat_map (copies_by T g a x) ws)) ≡ map (departed_as T g a) (given_by x ws)
  each_to_port [] = refl
  each_to_port (w ∷ ws) =
      ap (λ l. departed_as T g a (on w x) ∷ l) (captured_to_no_port w (g.after a (on w x)) (flat_map (copies_by T g a x) ws) ∙ each_to_port ws)

  all_to_port : (ws : List Written) → to_ports (map (copy_sent x) (copies_of T g a x ws)) ≡ map (departed_as T g a) (given_by x ws)
  all_to_port [] =
      let b = g.after a (record x { port = 0 }) in
      ap (λ cs. to_ports (map (copy_sent x) cs)) (sym (append-nil (capture_of g no_writes b))) ∙ captured_to_no_port no_writes b []
  all_to_port (w ∷ ws) = each_to_port (w ∷ ws)

  arrival_to_no_port : to_ports (arrival_sent x (arrive g a)) ≡ []
  arrival_to_no_port = by (captures g a)
    where
      by : (c : Bool) → to_ports (if c then Controller (record { packet = x; vlan = Some a }) ∷ [] else []) ≡ []
      by true = refl
      by false = refl

  -- the copies to ports are the departures with their headers
  pub copies_to_ports : (ws : List Written) → to_ports (all_copies T g a x ws) ≡ map (departed_as T g a) (given_by x ws)
  copies_to_ports ws =
      filter_map-append port_copy (arrival_sent x (arrive g a)) (map (copy_sent x) (copies_of T g a x ws))
      ∙ (λ i. arrival_to_no_port i ++ all_to_port ws i)

-- To the collector.

-- the copy of a packet with this tag, where an instance holds the words of the tag
abbrev pub caught : Tagging → ℕ → Numbers → List TaggedPacket
caught g b x = if captures g b then record { packet = x; vlan = Some b } ∷ [] else []

-- the copy for an observation
abbrev pub caught_of : Tagging → Sighting → List TaggedPacket
caught_of g s = caught g (tag_of g s.word) s.packet

module _ (T : Topology) (g : Tagging) (v : Word) (x : Numbers) where
  abbrev reached : ℕ
  reached = tag_of g v

  captured_to_controller : (w : Written) (b : ℕ) (cs : List Outgoing)
      → to_controller (map (copy_sent x) (capture_of g w b ++ cs)) ≡ caught g b (record (on w x) { port = x.port }) ++ to_controller (map (copy_sent x) cs)
  captured_to_controller w b cs = by (captures g b)
    where
      by : (c : Bool) → to_controller (map (copy_sent x) ((if c then record { writes = w; tag = Some b; kind = CaptureOut } ∷ [] else []) ++ cs))
          ≡ (if c then record { packet = record (on w x) { port = x.port }; vlan = Some b } ∷ [] else []) ++ to_controller (map (copy_sent x) cs)
      by true = refl
      by false = refl

  -- a departure, and the observation of it
  abbrev leaving_as : Numbers → Sighting
  leaving_as y = record { word = v ++ Out y ∷ []; packet = record y { port = x.port } }

  each_to_controller : (ws : List Written) → to_controller (map (copy_sent x) (flat_map (copies_by T g reached x) ws))
      ≡ flat_map (caught_of g) (map leaving_as (given_by x ws))
  each_to_controller [] = refl
  each_to_controller (w ∷ ws) =
      captured_to_controller w (g.after reached (on w x)) (flat_map (copies_by T g reached x) ws)
      ∙ (λ i. caught g (sym (left_tag g v (on w x)) i) (record (on w x) { port = x.port }) ++ each_to_controller ws i)

  all_to_controller : (ws : List Written) → to_controller (map (copy_sent x) (copies_of T g reached x ws))
      ≡ flat_map (caught_of g) (leavings v x (given_by x ws))
  all_to_controller [] =
      let drop = record x { port = 0 } in
      ap (λ cs. to_controller (map (copy_sent x) cs)) (sym (append-nil (capture_of g no_writes (g.after reached drop))))
      ∙ captured_to_controller no_writes (g.after reached drop) []
      ∙ (λ i. caught g (sym (left_tag g v drop) i) (record (on_none x i) { port = x.port }) ++ [])
  all_to_controller (w ∷ ws) = each_to_controller (w ∷ ws)

  arrival_to_controller : to_controller (arrival_sent x (arrive g reached)) ≡ caught g reached x
  arrival_to_controller = by (captures g reached)
    where
      by : (c : Bool) → to_controller (if c then Controller (record { packet = x; vlan = Some reached }) ∷ [] else [])
          ≡ (if c then record { packet = x; vlan = Some reached } ∷ [] else [])
      by true = refl
      by false = refl

  -- the copies to the collector are those for the observations
  pub copies_to_controller : (ws : List Written) → to_controller (all_copies T g reached x ws) ≡ flat_map (caught_of g) (sightings v x (given_by x ws))
  copies_to_controller ws =
      filter_map-append controller_copy (arrival_sent x (arrive g reached)) (map (copy_sent x) (copies_of T g reached x ws))
      ∙ (λ i. arrival_to_controller i ++ all_to_controller ws i)
