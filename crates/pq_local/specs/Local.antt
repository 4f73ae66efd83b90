-- Documents whose parts change, and the switches that such a change leaves alone.
use Rattle.std.specs.Prelude.{◌≡◌, ℕ, List, Some, slice_get}
use Rattle.std.specs.declared.option.Option.TheVariants.{None}
use Rattle.std.specs.List.{AllZip}
use Rattle.pq_fields.specs.Packet.{Numbers}
use Rattle.pq_fields.specs.Writes.{Written}
use Rattle.pq_auto.specs.Machine.{Machine}
use Rattle.pq_letters.specs.Letters.{LettersValue}
use Rattle.pq_model.specs.declared.message.Message.{Message}
use Rattle.pq_model.specs.Install.{Install, IsLawfulList}
use Rattle.pq_model.specs.Topology.{Switch, Topology}
use Rattle.pq_policy.specs.Policy.{PolicyTree}
use Rattle.pq_store.specs.Store.{value_at}
use Rattle.pq_store.specs.Tree.{Tree, value}
use Rattle.pq_layout.specs.Emission.{AreTrees}
use Rattle.pq_layout.specs.Leaves.{Departures, at_switch, departing}
use Rattle.pq_layout.specs.Tagging.{Tagging}
use Rattle.pq_join.specs.Tags.{tagging_of}
use Rattle.pq_emit.specs.Faults.{group_fault, table_fault}
use Rattle.pq_emit.specs.Switches.{IsFilledBy, IsSoundAt, IsSwitchAt, TablesTrees}
use Rattle.pq_compile.specs.Compiled.{AreTablesWithin, IsInstalled}
use Rattle.pq_compile.specs.Documents.{DocumentTree}
use Rattle.pq_compile.specs.Names.{Named}
use Rattle.pq_compile.specs.Prepared.{ForwardsAt}
use Rattle.pq_local.specs.declared.trees.TablesAt.{TablesAt}

-- the document with these parts in place of its own
abbrev pub with_parts : DocumentTree → List (Named PolicyTree) → DocumentTree
with_parts d parts = record { topology = d.topology; parts = parts; queries = d.queries }

-- with some other parts, the document has its diagram at this place and this install, and its tables are within the limits
pub record IsBefore (d : DocumentTree) (forward : List (Tree (List Written))) (before : ℕ) (old : Install) : Type 0 where
  pub parts : List (Named PolicyTree)
  pub forwards : ForwardsAt (with_parts d parts) forward before
  pub installed : IsInstalled (with_parts d parts) old
  pub within : AreTablesWithin (with_parts d parts)

-- the diagrams at two places say the same of all packets at the switch
abbrev pub AgreeAt : {L : Type 0} → List (Tree L) → ℕ → ℕ → ℕ → Type 0
AgreeAt ts d i j = (x : Numbers) → value_at ts i (at_switch d x) ≡ value_at ts j (at_switch d x)

-- the messages of a switch: they are lawful, and made of its trees, for which entries can be; no table has more entries than the switch's limit, and no entry more than 256 copies
pub record IsServed (T : Topology) (g : Tagging) (writes : Departures) (s : Switch) (ms : List Message) : Type 0 where
  pub trees : TablesTrees
  pub are : AreTrees T g writes s.datapath trees.first trees.second
  pub made : IsFilledBy trees ms
  pub tables : table_fault s trees ≡ None
  pub groups : group_fault s trees ≡ None
  pub lawful : IsLawfulList ms

-- so they are for what the diagram at a place leaves at the ports, and for the tags of these classes
abbrev pub IsServedAt : Topology → List (Tree (List Written)) → ℕ → LettersValue → Machine → Switch → List Message → Type 0
IsServedAt T forward policy a m s ms = (p : Tree (List Written)) → slice_get forward policy ≡ Some p → IsServed T (tagging_of a m) (departing T (value p)) s ms

-- so they are for the switch at a place of the topology
abbrev pub IsPlaceServed : Topology → List (Tree (List Written)) → ℕ → LettersValue → Machine → ℕ → List Message → Type 0
IsPlaceServed T forward policy a m k ms = (s : Switch) → slice_get T.switches k ≡ Some s → IsServedAt T forward policy a m s ms

-- and these for all switches
abbrev pub AreServedAt : Topology → List (Tree (List Written)) → ℕ → LettersValue → Machine → List (List Message) → Type 0
AreServedAt T forward policy a m all = AllZip (IsServedAt T forward policy a m) T.switches all

-- the trees of the switch at a place of the topology, for which entries can be, at their ids
pub record AreTablesOf (T : Topology) (g : Tagging) (writes : Departures) (s : Switch) (t : TablesAt) : Type 0 where
  pub trees : IsSwitchAt T g writes t.first t.second s t.trees
  pub sound : IsSoundAt t.first t.second t.trees

abbrev pub AreTablesAt : Topology → List (Tree (List Written)) → ℕ → LettersValue → Machine → ℕ → TablesAt → Type 0
AreTablesAt T forward policy a m k t =
    (s : Switch) → slice_get T.switches k ≡ Some s → (p : Tree (List Written)) → slice_get forward policy ≡ Some p
    → AreTablesOf T (tagging_of a m) (departing T (value p)) s t
