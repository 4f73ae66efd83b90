-- The trees of a switch, and the numbers that they test.
use Rattle.std.specs.Prelude.{ℕ, ◌≡◌, List, Some, slice_get, All}
use Rattle.pq_fields.specs.declared.field.Field.TheVariants.{Port}
use Rattle.pq_fields.specs.Writes.{Written}
use Rattle.pq_model.specs.Topology.{Topology}
use Rattle.pq_auto.specs.Machine.{Machine}
use Rattle.pq_letters.specs.Letters.{LettersValue}
use Rattle.pq_layout.specs.Leaves.{departing}
use Rattle.pq_layout.specs.Trees.{AreLeaving}
use Rattle.pq_rewrite.specs.declared.outgoing.Outgoing.{Outgoing}
use Rattle.pq_store.specs.Room.{HasRoom, IsAmong}
use Rattle.pq_store.specs.Tree.{Tree, value}
use Rattle.pq_rewrite.specs.declared.trees.Arrive.{Arrive}
use Rattle.pq_rewrite.specs.declared.trees.Key.{Key}
use Rattle.std.specs.declared.option.Option.{Option}
use Rattle.pq_join.specs.Sight.{WithinAt}
use Rattle.pq_join.specs.Sound.{TestsPortsOrZero}
use Rattle.pq_join.specs.Tags.{tagging_of}

-- the ports of the topology are among these
abbrev pub ArePortsAmong : List ℕ → Topology → Type 0
ArePortsAmong ns T = All (λ s. All (λ p. IsAmong p ns) s.ports) T.switches

-- there is room for the numbers that the policy's tree and the letters' tree test, and for the ports of the topology
abbrev pub FitsAsSwitch : Topology → List (Tree (List Written)) → ℕ → LettersValue → Type 0
FitsAsSwitch T forward policy a = HasRoom (λ ns. WithinAt ns forward policy × WithinAt ns a.trees a.root × ArePortsAmong (ns Port) T)

-- the trees of the second table, for what the policy at a place writes on a packet and leaves at a port of its switch
abbrev pub AreLeavingBy : Topology → LettersValue → Machine → ℕ → List (Tree (List Written)) → ℕ → List (Tree (List Outgoing)) → List (ℕ × ℕ) → Type 0
AreLeavingBy T a m d forward policy second trees =
    (p : Tree (List Written)) → slice_get forward policy ≡ Some p → AreLeaving T (tagging_of a m) (departing T (value p)) d second trees

-- the ports that the tree at a place tests have numbers of ports, or 0
abbrev pub TestPortsAt : {L : Type 0} → List (Tree L) → ℕ → Type 0
TestPortsAt {L} ts k = (t : Tree L) → slice_get ts k ≡ Some t → TestsPortsOrZero t

-- where the policy and the letters test only such ports, so do the trees
abbrev pub AllTestPorts : List (Tree (List Written)) → ℕ → LettersValue → List (Tree (Option Arrive)) → List (Key × ℕ)
    → List (Tree (List Outgoing)) → List (ℕ × ℕ) → Type 0
AllTestPorts forward policy a first arriving second leaving =
    TestPortsAt forward policy → TestPortsAt a.trees a.root → All (λ p. TestPortsAt first p.1) arriving × All (λ p. TestPortsAt second p.1) leaving
