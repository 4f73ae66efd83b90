-- The meaning machine: where packets go and what queries see, said of a document's meaning alone, without tables or tags.
use Rattle.std.specs.Prelude.{ℕ, Bool, List, [], ◌∷◌, ◌++◌, map, slice_get, is_none, if◌then◌else◌}
use Rattle.std.specs.declared.option.Option.{Option}
use Rattle.std.specs.declared.option.Option.TheVariants.{None, Some}
use Rattle.std.specs.List.{filter, flat_map, remove}
use Rattle.pq_fields.specs.Packet.{Numbers, numbers}
use Rattle.pq_model.specs.Tagged.{TaggedPacket}
use Rattle.pq_model.specs.declared.event.Event.{Event}
use Rattle.pq_model.specs.declared.event.Event.TheVariants.{Inject, Hop, Lose}
use Rattle.pq_model.specs.Topology.{Topology, peer, is_edge}
use Rattle.pq_model.specs.Word.{In, Out, Word}
use Rattle.pq_model.specs.Sorting.{sort_by}
use Rattle.pq_model.specs.Buckets.{Instance, BucketEntry}

-- what a document means: its topology, the departures of each packet, its instances in order, and which words each instance accepts
pub record Meaning : Type 0 where
  pub topology : Topology
  pub departs : Numbers → List Numbers
  pub instances : List Instance
  pub accepts : Instance → Word → Bool

-- a packet in flight with the word of its path so far; or a stranger, which was injected with a VLAN header
pub data Item : Type 0 where
  Traced : (word : Word) → (packet : Numbers) → Item
  Stranger : (packet : Numbers) → Item

pub record MeaningState : Type 0 where
  pub flight : List Item
  pub delivered : List Numbers
  pub buckets : List BucketEntry

-- no packet anywhere
abbrev pub at_rest : MeaningState
at_rest = record { flight = []; delivered = []; buckets = [] }

abbrev pub item_packet : Item → Numbers
item_packet (Traced w x) = x
item_packet (Stranger x) = x

-- a packet that is at another end
abbrev pub moved_to : Numbers → ℕ × ℕ → Numbers
moved_to y e = record y { switch = e.0; port = e.1 }

-- a departure with its word, at the other end of the link at its port; none where the port has no link
abbrev pub arrival : Word → Numbers → Option (ℕ × ℕ) → List Item
arrival word y None = []
arrival word y (Some e) = Traced word (moved_to y e) ∷ []

-- the departures at linked ports, in order
abbrev pub arrivals : Topology → Word → List Numbers → List Item
arrivals t w ys = flat_map (λ y. arrival (w ++ Out y ∷ []) y (peer t y.switch y.port)) ys

-- the departures at all other ports, in order
abbrev pub deliveries : Topology → List Numbers → List Numbers
deliveries t ys = filter (λ y. is_none (peer t y.switch y.port)) ys

-- the word up to an observation, and the packet that a bucket entry for it names
pub record Sighting : Type 0 where
  pub word : Word
  pub packet : Numbers

-- the observations of departures, or the one of a drop: an Out at port 0
abbrev pub leavings : Word → Numbers → List Numbers → List Sighting
leavings w x [] = record { word = w ++ Out (record x { port = 0 }) ∷ []; packet = x } ∷ []
leavings w x (y ∷ ys) = map (λ z. record { word = w ++ Out z ∷ []; packet = record z { port = x.port } }) (y ∷ ys)

-- all observations of one hop of the packet x, whose word with this arrival is w
abbrev pub sightings : Word → Numbers → List Numbers → List Sighting
sightings w x ys = record { word = w; packet = x } ∷ leavings w x ys

-- the packets of the observations whose word is accepted
abbrev pub accepted_packets : (Word → Bool) → List Sighting → List Numbers
accepted_packets accepts [] = []
accepted_packets accepts (s ∷ ss) = if accepts s.word then s.packet ∷ accepted_packets accepts ss else accepted_packets accepts ss

-- an instance's entries of one hop, by packet
abbrev pub entries_of : Meaning → List Sighting → Instance → List BucketEntry
entries_of m seen i = map (λ x. record { pair = i; packet = x }) (sort_by numbers (accepted_packets (m.accepts i) seen))

-- the word up to the arrival of a packet
abbrev pub entered : Word → Numbers → Word
entered w x = w ++ In x ∷ []

-- what one hop of an item adds to the flight, to the deliveries and to the buckets; a stranger adds nothing
abbrev pub flown : Meaning → Item → List Item
flown m (Traced w x) = arrivals m.topology (entered w x) (m.departs x)
flown m (Stranger x) = []

abbrev pub dropped_off : Meaning → Item → List Numbers
dropped_off m (Traced w x) = deliveries m.topology (m.departs x)
dropped_off m (Stranger x) = []

abbrev pub captured : Meaning → Item → List BucketEntry
captured m (Traced w x) = flat_map (entries_of m (sightings (entered w x) x (m.departs x))) m.instances
captured m (Stranger x) = []

-- a hop takes the item at the place out, if there is one
abbrev pub hops : Meaning → MeaningState → ℕ → Option Item → MeaningState
hops m s k None = s
hops m s k (Some i) = record {
  flight = remove s.flight k ++ flown m i;
  delivered = s.delivered ++ dropped_off m i;
  buckets = s.buckets ++ captured m i;
}

abbrev pub entered_as : TaggedPacket → Option ℕ → Item
entered_as x None = Traced [] x.packet
entered_as x (Some t) = Stranger x.packet

abbrev pub injects : Meaning → MeaningState → TaggedPacket → MeaningState
injects m s x = if is_edge m.topology x.packet.switch x.packet.port then record s { flight = s.flight ++ entered_as x x.vlan ∷ [] } else s

-- one event; one that names no edge port or no place changes nothing
abbrev pub happens : Meaning → MeaningState → Event → MeaningState
happens m s (Inject x) = injects m s x
happens m s (Hop k) = hops m s k (slice_get s.flight k)
happens m s (Lose k) = record s { flight = remove s.flight k }

-- the state after a schedule
abbrev pub run : Meaning → MeaningState → List Event → MeaningState
run m s [] = s
run m s (e ∷ es) = run m (happens m s e) es
