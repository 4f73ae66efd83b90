-- What one hop adds, copy by copy.
use Rattle.std.specs.Prelude.{ℕ, List, [], ◌∷◌, ◌++◌, if◌then◌else◌}
use Rattle.std.specs.List.{remove}
use Rattle.pq_model.specs.declared.tagged.Sent.{Sent}
use Rattle.pq_model.specs.declared.tagged.Sent.TheVariants.{Port, Controller}
use Rattle.pq_model.specs.Tagged.{TaggedPacket}
use Rattle.pq_model.specs.Topology.{Topology, peer, is_edge}
use Rattle.pq_model.specs.Buckets.{BucketEntry}
use Rattle.pq_model.specs.SwitchMachine.{to_ports, to_controller}
use Rattle.pq_model.specs.TablesMachine.{Report, TablesState, carried, carried_all, collected, collected_at, delivered_of}

-- what a sent copy puts in flight
abbrev pub carries : Topology → Sent → List TaggedPacket
carries t (Port x) = carried x (peer t x.packet.switch x.packet.port)
carries t (Controller x) = []

-- what a sent copy delivers
abbrev pub delivers : Topology → Sent → List TaggedPacket
delivers t (Port x) = if is_edge t x.packet.switch x.packet.port then x ∷ [] else []
delivers t (Controller x) = []

-- what a sent copy puts into buckets
abbrev pub collects : Report → Sent → List BucketEntry
collects report (Port x) = []
collects report (Controller x) = collected_at report x.packet x.vlan

-- what the copies of one hop put in flight, deliver and put into buckets
abbrev pub adds : Topology → Report → List Sent → TablesState
adds t report sent = record {
  flight = carried_all t (to_ports sent);
  delivered = delivered_of t (to_ports sent);
  buckets = collected report (to_controller sent);
}

-- the state without the packet in flight at this place, and with what its hop adds
abbrev pub moved_on : TablesState → ℕ → TablesState → TablesState
moved_on s place added = record {
  flight = remove s.flight place ++ added.flight;
  delivered = s.delivered ++ added.delivered;
  buckets = s.buckets ++ added.buckets;
}
