-- What is seen of packets at a switch.
use Rattle.std.specs.Prelude.{ℕ, ◌≡◌, ◌⊎◌, List, Some, slice_get, All}
use Rattle.std.specs.List.{Any}
use Rattle.pq_fields.specs.declared.field.Field.{Field}
use Rattle.pq_fields.specs.declared.field.Field.TheVariants.{Switch, Port}
use Rattle.pq_fields.specs.Packet.{Numbers}
use Rattle.pq_model.specs.Topology.{Topology, ports_of}
use Rattle.pq_store.specs.declared.test.Test.{Test}
use Rattle.pq_store.specs.declared.test.Test.TheVariants.{Equal}
use Rattle.pq_store.specs.Laws.{IsUntested}
use Rattle.pq_store.specs.Room.{IsAmong, Within}
use Rattle.pq_store.specs.Tree.{Tree, IsTested, value}
use Rattle.pq_letters.specs.Letters.{LettersValue}
use Rattle.pq_letters.specs.Words.{letter_number}
use Rattle.pq_layout.specs.Leaves.{at_switch}
use Rattle.pq_join.specs.declared.sight.Seen.{Seen}
use Rattle.pq_join.specs.Ports.{port_kind}

-- the letter of the packet at the switch, and what its port is there
abbrev pub seen_of : Topology → LettersValue → ℕ → Numbers → Seen
seen_of T a d x = record { letter = letter_number a (at_switch d x); port = port_kind T d x.port }

-- the numbers that the tree at a place tests are among these
abbrev pub WithinAt : {L : Type 0} → (Field → List ℕ) → List (Tree L) → ℕ → Type 0
WithinAt {L} ns ts k = (t : Tree L) → slice_get ts k ≡ Some t → Within ns t

-- the test is in the tree at a place
abbrev pub IsTestedAt : {L : Type 0} → List (Tree L) → ℕ → Test → Type 0
IsTestedAt {L} ts k s = (t : Tree L) → slice_get ts k ≡ Some t → IsTested s t

-- the numbers that letters test and the ports of the switch are among these
abbrev pub IsSeenWithin : Topology → LettersValue → ℕ → (Field → List ℕ) → Type 0
IsSeenWithin T a d ns = WithinAt ns a.trees a.root × All (λ p. IsAmong p (ns Port)) (ports_of T d)

-- the tree tells what is seen of each packet at the switch: it tests what letters test and the switch's ports, but no switch
pub record IsSight (T : Topology) (a : LettersValue) (d : ℕ) (t : Tree Seen) : Type 0 where
  pub gives : (x : Numbers) → value t x ≡ seen_of T a d x
  pub tests : (ns : Field → List ℕ) → IsSeenWithin T a d ns → Within ns t
  pub asks : (s : Test) → IsTested s t → IsTestedAt a.trees a.root s ⊎ Any (λ p. s ≡ Equal Port p) (ports_of T d)
  pub switch : IsUntested Switch t
