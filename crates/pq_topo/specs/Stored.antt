-- A topology as it is stored.
use Rattle.pq_topo.specs.declared.topology.Topology.TheInside.{Inside}
use Rattle.pq_model.specs.Topology.{Topology}

-- the switches and links that are stored
abbrev pub stored_topology : Inside → Topology
stored_topology t = record { switches = t.switches.items; links = t.links.items }
