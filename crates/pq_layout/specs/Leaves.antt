-- What the trees of a switch's two tables say of a packet at the switch.
use Rattle.std.specs.Prelude.{ℕ, Bool, List, [], ◌∷◌, if◌then◌else◌}
use Rattle.std.specs.declared.option.Option.{Option}
use Rattle.std.specs.declared.option.Option.TheVariants.{None, Some}
use Rattle.std.specs.List.{filter, flat_map}
use Rattle.pq_fields.specs.Packet.{Numbers, Fit}
use Rattle.pq_fields.specs.Writes.{Written, no_writes, on}
use Rattle.pq_model.specs.Topology.{Topology, is_edge, is_linked, is_port}
use Rattle.pq_rewrite.specs.declared.outgoing.OutKind.TheVariants.{Send, CaptureOut}
use Rattle.pq_rewrite.specs.declared.outgoing.Outgoing.{Outgoing}
use Rattle.pq_rewrite.specs.declared.trees.Arrive.{Arrive}
use Rattle.pq_rewrite.specs.declared.trees.Key.{Key}
use Rattle.pq_rewrite.specs.declared.trees.Key.TheVariants.{Plain, Tag}
use Rattle.pq_rewrite.specs.Rewriting.{IsGiven}
use Rattle.pq_layout.specs.Tagging.{Tagging, captures}

-- the packet at a switch
abbrev pub at_switch : ℕ → Numbers → Numbers
at_switch d x = record x { switch = d }

-- Table 0: the arrival.

-- a packet has arrived with this tag
abbrev pub arrive : Tagging → ℕ → Arrive
arrive g t = record { tag = t; capture = captures g t }

-- what the tree of a key says of a packet: without a tag it comes in at an edge port, with a tag over a link
abbrev pub arrival : Topology → Tagging → Key → Numbers → Option Arrive
arrival T g Plain x = if is_edge T x.switch x.port then Some (arrive g (g.after 1 x)) else None
arrival T g (Tag t) x = if is_linked T x.switch x.port then Some (arrive g (g.after t x)) else None

-- Table 1: the departures.

-- whether the written packet leaves at a port of its switch
abbrev pub departs_by : Topology → Numbers → Written → Bool
departs_by T x w = is_port T x.switch (on w x).port

-- the copy to the collector where an instance holds the words of the tag
abbrev pub capture_of : Tagging → Written → ℕ → List Outgoing
capture_of g w b = if captures g b then record { writes = w; tag = Some b; kind = CaptureOut } ∷ [] else []

-- the copy that leaves: with the tag over a link, without a tag at an edge port
abbrev pub sent_of : Topology → Numbers → Written → ℕ → Outgoing
sent_of T y w b = record { writes = w; tag = if is_linked T y.switch y.port then Some b else None; kind = Send }

-- the copies of one departure y = on w x from the tag a
abbrev pub copies_by : Topology → Tagging → ℕ → Numbers → Written → List Outgoing
copies_by T g a x w = sent_of T (on w x) w (g.after a (on w x)) ∷ capture_of g w (g.after a (on w x))

-- the copies of all departures, given by their writes; without one, that of the drop, an Out at port 0
abbrev pub copies_of : Topology → Tagging → ℕ → Numbers → List Written → List Outgoing
copies_of T g a x [] = capture_of g no_writes (g.after a (record x { port = 0 }))
copies_of T g a x (w ∷ ws) = flat_map (copies_by T g a x) (w ∷ ws)

-- the departures of each packet, as writes
abbrev pub Departures : Type 0
Departures = Numbers → List Written

-- of all that a policy writes on a packet, what leaves at a port of its switch
abbrev pub departing : Topology → Departures → Departures
departing T writes x = filter (departs_by T x) (writes x)

-- what the tree of an odd tag says of a packet
abbrev pub leaving : Topology → Tagging → Departures → ℕ → Numbers → List Outgoing
leaving T g writes a x = copies_of T g a x (writes x)

-- the writes are those of the packets that depart: ascending, each once, and each changes the packet in every field that it writes
abbrev pub AreDepartures : (Numbers → Numbers → Type 0) → Departures → Type 0
AreDepartures departs writes = (x : Numbers) → Fit x → IsGiven x (departs x) (writes x)
