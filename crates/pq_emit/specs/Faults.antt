-- Why the trees of a network give no install.
use Rattle.std.specs.Prelude.{◌≡◌, ◌⊎◌, ℕ, List, [], ◌∷◌, nat_lt, if◌then◌else◌}
use Rattle.std.specs.declared.option.Option.{Option}
use Rattle.std.specs.declared.option.Option.TheVariants.{None, Some}
use Rattle.std.specs.Option.{option_map, option_or}
use Rattle.pq_layout.specs.Leaves.{Departures}
use Rattle.pq_layout.specs.Messages.{leaving_entries}
use Rattle.pq_layout.specs.Tagging.{Tagging}
use Rattle.pq_model.specs.Topology.{Switch, Topology}
use Rattle.pq_rules.specs.declared.fault.RulesFault.{RulesFault}
use Rattle.pq_rules.specs.declared.fault.RulesFault.TheVariants.{TableFull, GroupFull, Memory}
use Rattle.pq_rules.specs.Counts.{capped}
use Rattle.pq_rules.specs.Refusals.{arriving_count, leaving_count, many_copies}
use Rattle.pq_emit.specs.Switches.{AreAllTrees, TablesTrees}

-- a table of a switch with this many entries is too large
abbrev pub full_table : ℕ → ℕ → ℕ → ℕ → Option RulesFault
full_table datapath limit table entries = if nat_lt limit entries then Some (TableFull datapath table (capped entries)) else None

-- the first table of the switch with more entries than the limit
abbrev pub table_fault : Switch → TablesTrees → Option RulesFault
table_fault s t = option_or (full_table s.datapath s.limit 0 (arriving_count t.first)) (full_table s.datapath s.limit 1 (leaving_count t.second))

-- the first entry of the switch with more than 256 copies
abbrev pub group_fault : Switch → TablesTrees → Option RulesFault
group_fault s t = option_map (GroupFull s.datapath) (many_copies (leaving_entries t.second))

-- the fault of the first switch that has one
abbrev pub first_fault : (Switch → TablesTrees → Option RulesFault) → List Switch → List TablesTrees → Option RulesFault
first_fault fault [] ts = None
first_fault fault (s ∷ ss) [] = None
first_fault fault (s ∷ ss) (t ∷ ts) = option_or (fault s t) (first_fault fault ss ts)

-- a table that is too large, of whatever switch, comes before an entry with too many copies
abbrev pub fault_of : List Switch → List TablesTrees → Option RulesFault
fault_of ss ts = option_or (first_fault table_fault ss ts) (first_fault group_fault ss ts)

-- the fault is running out of memory, or that of the trees
abbrev pub IsFaultOf : List Switch → List TablesTrees → RulesFault → Type 0
IsFaultOf ss ts fault = (fault ≡ Memory) ⊎ (fault_of ss ts ≡ Some fault)

-- the fault of an entry with this many copies, if one was met, or else that of the trees
abbrev pub met_fault : Option (ℕ × ℕ) → Option RulesFault
met_fault full = option_map (λ p. GroupFull p.0 p.1) full

-- the network's trees have this fault
pub record AreTooLarge (T : Topology) (g : Tagging) (writes : Departures) (fault : RulesFault) : Type 0 where
  pub trees : List TablesTrees
  pub all : AreAllTrees T g writes trees
  pub first : fault_of T.switches trees ≡ Some fault

-- why there is no install; running out of memory may come at any time
abbrev pub IsEmitFault : Topology → Tagging → Departures → RulesFault → Type 0
IsEmitFault T g writes (TableFull datapath table entries) = AreTooLarge T g writes (TableFull datapath table entries)
IsEmitFault T g writes (GroupFull datapath copies) = AreTooLarge T g writes (GroupFull datapath copies)
IsEmitFault T g writes Memory = Unit {0}

-- there is no other reason than running out of memory
abbrev pub HasNoFault : Topology → Tagging → Departures → Type 0
HasNoFault T g writes = (fault : RulesFault) → IsEmitFault T g writes fault → fault ≡ Memory
