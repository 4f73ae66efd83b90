-- A network as it is stored.
use Rattle.std.specs.Prelude.{◌≡◌, map, length}
use Rattle.pq_model.specs.Lawful.{Ascends}
use Rattle.pq_net.specs.Network.{Network}
use Rattle.pq_net.specs.declared.net.Net.TheInside.{Inside}

-- the parts that are stored
abbrev pub stored_network : Inside → Network
stored_network n = record { topology = n.wiring; queries = n.names.items; report = n.report.items; tables = n.tables.items; state = n.state }

-- the rows ascend by their tags, and there are tables for each switch
pub record IsSearchable (n : Network) : Type 0 where
  pub tags_ascend : Ascends (map (λ row. row.tag) n.report)
  pub listed : length n.tables ≡ length n.topology.switches
