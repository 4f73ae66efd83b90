-- The ports that diagrams test and write.
use Rattle.std.specs.Prelude.{ℕ, ◌≡◌, ◌⊎◌, List, All, IfSome}
use Rattle.pq_fields.specs.declared.field.Field.{Field}
use Rattle.pq_fields.specs.declared.field.Field.TheVariants.{Port}
use Rattle.pq_fields.specs.Packet.{Numbers, Fit}
use Rattle.pq_fields.specs.Writes.{Written}
use Rattle.pq_model.specs.MatchFields.{IsPortNumber}
use Rattle.pq_model.specs.Topology.{Topology}
use Rattle.pq_query.specs.Query.{QueryTree}
use Rattle.pq_store.specs.declared.test.Test.TheVariants.{Equal}
use Rattle.pq_store.specs.Room.{IsAmong, Within}
use Rattle.pq_store.specs.Tree.{Tree, IsTested, value}
use Rattle.pq_rewrite.specs.Rewriting.{IsToWrite}
use Rattle.pq_classes.specs.Room.{IsQueryWithin}

-- the ports that the diagram tests, and those that it writes, are numbers of ports
pub record HasPorts (t : Tree (List Written)) : Type 0 where
  pub tests : (v : ℕ) → IsTested (Equal Port v) t → IsPortNumber v
  pub writes : (n : ℕ) → IsToWrite Port n t → IsPortNumber n
  pub written : (x : Numbers) → Fit x → All (λ w. IfSome w.port IsPortNumber) (value t x)

-- the letters' diagram tests only the numbers of the queries, those in prerequisites, and port 0
abbrev pub TestsQueries : Topology → List QueryTree → Tree ℕ → Type 0
TestsQueries T qs t = (ns : Field → List ℕ) → IsAmong 0 (ns Port) → All (IsQueryWithin ns T) qs → Within ns t

-- the ports that it tests are numbers of ports, or port 0
abbrev pub TestsPortsOrNone : Tree ℕ → Type 0
TestsPortsOrNone t = (v : ℕ) → IsTested (Equal Port v) t → (v ≡ 0) ⊎ IsPortNumber v
