-- The trees of `flood`.
use Rattle.std.specs.Prelude.{ℕ, ◌≤◌, ◌≡◌, ◌≢◌, ◌==◌, if◌then◌else◌, List, [], ◌∷◌, length}
use Rattle.std.specs.List.{Any, Contains}
use Rattle.pq_fields.specs.declared.field.Field.{Field}
use Rattle.pq_fields.specs.declared.field.Field.TheVariants.{Switch, Port}
use Rattle.pq_fields.specs.Writes.{Written, no_writes, with_write}
use Rattle.pq_model.specs.Topology.{Switch as SwitchValue, ports_in}
use Rattle.pq_store.specs.declared.test.Test.{Test}
use Rattle.pq_store.specs.declared.test.Test.TheVariants.{Equal}
use Rattle.pq_store.specs.Diagram.{AllLawful, Ascends}
use Rattle.pq_store.specs.Tree.{Tree, IsTested}
use Rattle.pq_store.specs.Room.{IsAmong}
use Rattle.pq_rewrite.specs.Rewriting.{Covers, IsGiving}

-- the port is written
abbrev pub at_port : ℕ → Written
at_port p = with_write Port p no_writes

-- each of the ports but one is written, in their order
abbrev pub at_others : ℕ → List ℕ → List Written
at_others own [] = []
at_others own (p ∷ ps) = if p == own then at_others own ps else at_port p ∷ at_others own ps

-- there are at most 4,096
abbrev pub AreFewPorts : List ℕ → Type 0
AreFewPorts ps = length ps ≤ 4096

-- the tree gives the packet at each of the ports but its own, and tests and writes these ports alone
pub record IsSpread (ps : List ℕ) (t : Tree (List Written)) : Type 0 where
  pub lawful : AllLawful t
  pub ascends : Ascends t
  pub tests : (s : Test) → IsTested s t → Any (λ p. s ≡ Equal Port p) ps
  pub giving : IsGiving (λ x y. (p : ℕ) × Contains ps p × (p ≢ x.port) × (y ≡ record x { port = p })) t
  pub covers : (ns : Field → List ℕ) → ((p : ℕ) → Contains ps p → IsAmong p (ns Port)) → Covers ns t

-- the tree gives, of a packet at one of the switches, the packet at each port of the switch but its own
pub record IsFlood (ss : List SwitchValue) (t : Tree (List Written)) : Type 0 where
  pub giving : IsGiving (λ x y. (p : ℕ) × Contains (ports_in ss x.switch) p × (p ≢ x.port) × (y ≡ record x { port = p })) t
  pub covers : (ns : Field → List ℕ)
      → ((s : SwitchValue) → Contains ss s → IsAmong s.datapath (ns Switch) × ((p : ℕ) → Contains s.ports p → IsAmong p (ns Port)))
      → Covers ns t
