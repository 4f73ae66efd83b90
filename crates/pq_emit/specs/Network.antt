-- The trees of a network, for the departures of a policy and for the classes of its queries.
use Rattle.std.specs.Prelude.{◌≡◌, ◌<◌, ◌^◌, ℕ, List, [], Some, slice_get, All}
use Rattle.std.specs.declared.option.Option.{Option}
use Rattle.pq_auto.specs.Machine.{Machine}
use Rattle.pq_fields.specs.Writes.{Written}
use Rattle.pq_join.specs.Sound.{TestsPortsOrZero}
use Rattle.pq_join.specs.Switch.{TestPortsAt}
use Rattle.pq_store.specs.Store.{HasAt}
use Rattle.pq_join.specs.Tags.{tagging_of}
use Rattle.pq_layout.specs.Leaves.{Departures, departing}
use Rattle.pq_layout.specs.Tagging.{Tagging}
use Rattle.pq_layout.specs.Trees.{IsArriving, IsLeaving}
use Rattle.pq_fields.specs.declared.field.Field.{Field}
use Rattle.pq_rewrite.specs.declared.trees.Key.{Key}
use Rattle.pq_store.specs.Laws.{StandsBelow}
use Rattle.pq_letters.specs.Letters.{LettersValue}
use Rattle.pq_model.specs.Topology.{Topology}
use Rattle.pq_rewrite.specs.declared.outgoing.Outgoing.{Outgoing}
use Rattle.pq_rewrite.specs.declared.trees.Arrive.{Arrive}
use Rattle.pq_rewrite.specs.declared.trees.SwitchTrees.{SwitchTrees}
use Rattle.pq_store.specs.Tree.{Tree, value}
use Rattle.pq_emit.specs.Switches.{AreSwitchesAt}

-- the ids are those of the switches' trees, for what leaves by the policy's writes and for the tags of the classes
abbrev pub AreTreesAt :
    Topology → List (Tree (List Written)) → ℕ → LettersValue → Machine → List (Tree (Option Arrive)) → List (Tree (List Outgoing)) → List SwitchTrees → Type 0
AreTreesAt T forward policy a m firsts seconds trees =
    (p : Tree (List Written)) → slice_get forward policy ≡ Some p → AreSwitchesAt T (tagging_of a m) (departing T (value p)) firsts seconds trees

-- so it is for the tags of the classes, over whatever letters, and for all departures whose trees are at the ids
abbrev pub IfTreesAt : Topology → Machine → List (Tree (Option Arrive)) → List (Tree (List Outgoing)) → List SwitchTrees
    → (Tagging → Departures → Type 0) → Type 0
IfTreesAt T m firsts seconds trees Holds =
    (a : LettersValue) (writes : Departures) → AreSwitchesAt T (tagging_of a m) writes firsts seconds trees → Holds (tagging_of a m) writes

-- each test of the layout's trees is below its prerequisites
abbrev pub StandBelowAll : Topology → Tagging → Departures → Type 0
StandBelowAll T g writes =
    (d : ℕ) → d < 2 ^ 64
    → ((k : Key) (t : Tree (Option Arrive)) → IsArriving T g d k t → (f : Field) → StandsBelow f [] t)
    × ((b : ℕ) (t : Tree (List Outgoing)) → IsLeaving T g writes d b t → (f : Field) → StandsBelow f [] t)

-- the ports that the trees at the ids of a switch test have numbers of ports, or 0
abbrev pub TestPortsOf : List (Tree (Option Arrive)) → List (Tree (List Outgoing)) → SwitchTrees → Type 0
TestPortsOf firsts seconds t =
    All (λ p. HasAt TestsPortsOrZero firsts p.1) t.arriving.items × All (λ p. HasAt TestsPortsOrZero seconds p.1) t.leaving.items

-- so do those of all switches, where the policy and the letters test only such ports
abbrev pub AllTestPortsOf : List (Tree (List Written)) → ℕ → LettersValue → List (Tree (Option Arrive)) → List (Tree (List Outgoing))
    → List SwitchTrees → Type 0
AllTestPortsOf forward policy a firsts seconds ts = TestPortsAt forward policy → TestPortsAt a.trees a.root → All (TestPortsOf firsts seconds) ts

-- so it is for what leaves by the policy's writes, and for the tags of the classes
abbrev pub IfPolicy : Topology → List (Tree (List Written)) → ℕ → LettersValue → Machine → (Tagging → Departures → Type 0) → Type 0
IfPolicy T forward policy a m Holds = (p : Tree (List Written)) → slice_get forward policy ≡ Some p → Holds (tagging_of a m) (departing T (value p))
