-- The tables machine: where packets go and what the collector gets, said of what switches send alone.
use Rattle.std.specs.Prelude.{ℕ, List, [], ◌∷◌, ◌++◌, map, slice_get, ◌==◌, if◌then◌else◌}
use Rattle.std.specs.declared.option.Option.{Option}
use Rattle.std.specs.declared.option.Option.TheVariants.{None, Some}
use Rattle.std.specs.List.{filter, flat_map, remove}
use Rattle.pq_fields.specs.Packet.{Numbers}
use Rattle.pq_model.specs.declared.event.Event.{Event}
use Rattle.pq_model.specs.declared.event.Event.TheVariants.{Inject, Hop, Lose}
use Rattle.pq_model.specs.declared.tagged.Sent.{Sent}
use Rattle.pq_model.specs.Tagged.{TaggedPacket}
use Rattle.pq_model.specs.Topology.{Topology, peer, is_edge}
use Rattle.pq_model.specs.Sorting.{sort_by}
use Rattle.pq_model.specs.Buckets.{Instance, BucketEntry, entry_numbers}
use Rattle.pq_model.specs.Meaning.{moved_to}
use Rattle.pq_model.specs.SwitchMachine.{Tables, sends, to_ports, to_controller}

-- a row of the report table: a tag, and the instances whose buckets get the copies with that tag
pub record Row : Type 0 where
  pub tag : ℕ
  pub pairs : List Instance

-- all that the collector knows
abbrev pub Report : Type 0
Report = List Row

-- a way of sending: what the network's switches send for an arriving packet, which names its switch
abbrev pub Sender : Type 0
Sender = TaggedPacket → List Sent

pub record TablesState : Type 0 where
  pub flight : List TaggedPacket
  pub delivered : List TaggedPacket
  pub buckets : List BucketEntry

-- no packet anywhere
abbrev pub nothing_sent : TablesState
nothing_sent = record { flight = []; delivered = []; buckets = [] }

-- a copy at the other end of the link at its port; none where the port has no link
abbrev pub carried : TaggedPacket → Option (ℕ × ℕ) → List TaggedPacket
carried y None = []
carried y (Some e) = record y { packet = moved_to y.packet e } ∷ []

-- the copies sent to linked ports, in order
abbrev pub carried_all : Topology → List TaggedPacket → List TaggedPacket
carried_all t ys = flat_map (λ y. carried y (peer t y.packet.switch y.packet.port)) ys

-- the copies sent to edge ports, in order; those to other ports are lost
abbrev pub delivered_of : Topology → List TaggedPacket → List TaggedPacket
delivered_of t ys = filter (λ y. is_edge t y.packet.switch y.packet.port) ys

-- the instances of the row with this tag, and none where there is no such row
abbrev pub pairs_of : Report → ℕ → List Instance
pairs_of [] tag = []
pairs_of (row ∷ rows) tag = if row.tag == tag then row.pairs else pairs_of rows tag

-- a copy to the controller adds one entry per instance of its tag's row; one without a VLAN header adds none
abbrev pub collected_at : Report → Numbers → Option ℕ → List BucketEntry
collected_at report x None = []
collected_at report x (Some tag) = map (λ i. record { pair = i; packet = x }) (pairs_of report tag)

-- the entries of one hop, by instance and then by packet
abbrev pub collected : Report → List TaggedPacket → List BucketEntry
collected report ys = sort_by entry_numbers (flat_map (λ y. collected_at report y.packet y.vlan) ys)

abbrev pub hops_sending : Topology → Report → Sender → TablesState → ℕ → Option TaggedPacket → TablesState
hops_sending t report send s k None = s
hops_sending t report send s k (Some x) = record {
  flight = remove s.flight k ++ carried_all t (to_ports (send x));
  delivered = s.delivered ++ delivered_of t (to_ports (send x));
  buckets = s.buckets ++ collected report (to_controller (send x));
}

abbrev pub injects_sending : Topology → TablesState → TaggedPacket → TablesState
injects_sending t s x = if is_edge t x.packet.switch x.packet.port then record s { flight = s.flight ++ x ∷ [] } else s

-- one event, while the switches send in this way
abbrev pub happens_sending : Topology → Report → Sender → TablesState → Event → TablesState
happens_sending t report send s (Inject x) = injects_sending t s x
happens_sending t report send s (Hop k) = hops_sending t report send s k (slice_get s.flight k)
happens_sending t report send s (Lose k) = record s { flight = remove s.flight k }

-- the state after a schedule
abbrev pub run_sending : Topology → Report → Sender → TablesState → List Event → TablesState
run_sending t report send s [] = s
run_sending t report send s (e ∷ es) = run_sending t report send (happens_sending t report send s e) es

-- each switch sends by its own tables
abbrev pub sends_by : (ℕ → Tables) → Sender
sends_by tables x = sends (tables x.packet.switch) x
