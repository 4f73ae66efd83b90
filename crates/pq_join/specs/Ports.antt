-- The ports of a switch: which are in a link.
use Rattle.std.specs.Prelude.{ℕ, ◌≡◌, if◌then◌else◌}
use Rattle.std.specs.List.{Any}
use Rattle.pq_fields.specs.declared.field.Field.TheVariants.{Port}
use Rattle.pq_fields.specs.Packet.{Numbers}
use Rattle.pq_model.specs.Topology.{Topology, is_linked, is_port, ports_of}
use Rattle.pq_store.specs.declared.test.Test.{Test}
use Rattle.pq_store.specs.declared.test.Test.TheVariants.{Equal}
use Rattle.pq_store.specs.Tree.{Tree, value, IsTested}
use Rattle.pq_join.specs.declared.ports.PortKind.{PortKind}
use Rattle.pq_join.specs.declared.ports.PortKind.TheVariants.{Missing, Edge, Linked}

-- what a port of the switch is
abbrev pub own_kind : Topology → ℕ → ℕ → PortKind
own_kind T d p = if is_linked T d p then Linked else Edge

-- what a port number is at the switch
abbrev pub port_kind : Topology → ℕ → ℕ → PortKind
port_kind T d p = if is_port T d p then own_kind T d p else Missing

-- the tree tells of each packet what its port is at the switch, and tests the ports of the switch alone
pub record IsPortTree (T : Topology) (d : ℕ) (t : Tree PortKind) : Type 0 where
  pub gives : (x : Numbers) → value t x ≡ port_kind T d x.port
  pub tests : (s : Test) → IsTested s t → Any (λ p. s ≡ Equal Port p) (ports_of T d)
