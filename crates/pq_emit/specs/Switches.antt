-- The trees of a network's switches, and the messages made of them.
use Rattle.std.specs.Prelude.{◌≡◌, ℕ, List, map}
use Rattle.std.specs.declared.option.Option.{Option}
use Rattle.std.specs.List.{AllZip}
use Rattle.pq_layout.specs.Emission.{AreMessages, AreTrees}
use Rattle.pq_layout.specs.Leaves.{Departures}
use Rattle.pq_layout.specs.Messages.{ArrivingTrees, LeavingTrees, messages_of}
use Rattle.pq_layout.specs.Sound.{AreSoundArriving, AreSoundLeaving}
use Rattle.pq_layout.specs.Tagging.{Tagging}
use Rattle.pq_layout.specs.Trees.{AreArriving, AreLeaving}
use Rattle.pq_lookup.specs.Sent.{AreFilled}
use Rattle.pq_model.specs.declared.message.Message.{Message}
use Rattle.pq_model.specs.Install.{Install}
use Rattle.pq_model.specs.Topology.{Switch, Topology}
use Rattle.pq_rewrite.specs.declared.outgoing.Outgoing.{Outgoing}
use Rattle.pq_rewrite.specs.declared.trees.Arrive.{Arrive}
use Rattle.pq_rewrite.specs.declared.trees.SwitchTrees.{SwitchTrees}
use Rattle.pq_rules.specs.Counts.{AreWithin}
use Rattle.pq_rules.specs.Tables.{AreArrivingWithin, arriving_trees, leaving_trees}
use Rattle.pq_store.specs.Tree.{Tree}

-- the trees of a switch's two tables, each with its VLAN_VID word
pub record TablesTrees : Type 0 where
  pub first : ArrivingTrees
  pub second : LeavingTrees

-- the trees at the ids of a switch
abbrev pub trees_at : List (Tree (Option Arrive)) → List (Tree (List Outgoing)) → SwitchTrees → TablesTrees
trees_at firsts seconds t = record { first = arriving_trees firsts t.arriving.items; second = leaving_trees seconds t.leaving.items }

-- those of each switch
abbrev pub trees_of : List (Tree (Option Arrive)) → List (Tree (List Outgoing)) → List SwitchTrees → List TablesTrees
trees_of firsts seconds ts = map (trees_at firsts seconds) ts

-- the ids are those of a switch's trees
abbrev pub IsSwitchAt : Topology → Tagging → Departures → List (Tree (Option Arrive)) → List (Tree (List Outgoing)) → Switch → SwitchTrees → Type 0
IsSwitchAt T g writes firsts seconds s t = AreArriving T g s.datapath firsts t.arriving.items × AreLeaving T g writes s.datapath seconds t.leaving.items

-- so for each switch, in order
abbrev pub AreSwitchesAt : Topology → Tagging → Departures → List (Tree (Option Arrive)) → List (Tree (List Outgoing)) → List SwitchTrees → Type 0
AreSwitchesAt T g writes firsts seconds trees = AllZip (IsSwitchAt T g writes firsts seconds) T.switches trees

-- the ids are those of trees that entries can stand for
pub record IsSoundAt (firsts : List (Tree (Option Arrive))) (seconds : List (Tree (List Outgoing))) (t : SwitchTrees) : Type 0 where
  pub arriving_ids : AreArrivingWithin firsts t.arriving.items
  pub leaving_ids : AreWithin seconds t.leaving.items
  pub arriving : AreSoundArriving (arriving_trees firsts t.arriving.items)
  pub leaving : AreSoundLeaving (leaving_trees seconds t.leaving.items)

-- the trees of all switches, in order
abbrev pub AreAllTrees : Topology → Tagging → Departures → List TablesTrees → Type 0
AreAllTrees T g writes ts = AllZip (λ s t. AreTrees T g writes s.datapath t.first t.second) T.switches ts

-- the messages of a switch's trees, by which its tables are filled
pub record IsFilledBy (t : TablesTrees) (ms : List Message) : Type 0 where
  pub messages : ms ≡ messages_of t.first t.second
  pub filled : AreFilled t.first t.second

-- the messages of each switch are made of its trees, whose tables are filled
abbrev pub IsFilled : Topology → Tagging → Departures → Install → Type 0
IsFilled T g writes i = AllZip (λ s ms. (a : AreMessages T g writes s.datapath ms) × AreFilled a.first a.second) T.switches i.messages

-- the trees of a switch's two tables are the only ones
abbrev pub HaveOneTree : Type 0
HaveOneTree =
    (T : Topology) (g : Tagging) (writes : Departures) (d : ℕ) (a x : ArrivingTrees) (b y : LeavingTrees) → AreTrees T g writes d a b
    → AreTrees T g writes d x y → (a ≡ x) × (b ≡ y)
