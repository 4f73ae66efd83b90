-- When the trees of a switch give tables, and what is said otherwise.
use Rattle.std.specs.Prelude.{◌≡◌, ◌≤◌, ◌<◌, ◌⊎◌, ℕ, List, [], ◌∷◌, length, nat_lt, if◌then◌else◌}
use Rattle.std.specs.declared.option.Option.{Option}
use Rattle.std.specs.declared.option.Option.TheVariants.{None, Some}
use Rattle.pq_model.specs.MatchFields.{MatchFields}
use Rattle.pq_rewrite.specs.declared.outgoing.Outgoing.{Outgoing}
use Rattle.pq_layout.specs.Entries.{table_of}
use Rattle.pq_layout.specs.Messages.{ArrivingTrees, LeavingTrees, is_nothing, leaving_entries}
use Rattle.pq_rules.specs.declared.fault.RulesFault.{RulesFault}
use Rattle.pq_rules.specs.declared.fault.RulesFault.TheVariants.{TableFull, GroupFull, Memory}
use Rattle.pq_rules.specs.Counts.{capped}

-- the numbers of entries of table 0 and of table 1
abbrev pub arriving_count : ArrivingTrees → ℕ
arriving_count firsts = length (table_of is_nothing firsts)

abbrev pub leaving_count : LeavingTrees → ℕ
leaving_count seconds = length (leaving_entries seconds)

-- how many copies the first entry with more than 256 has, where there is one
abbrev pub many_copies : List (MatchFields × List Outgoing) → Option ℕ
many_copies [] = None
many_copies (e ∷ es) = if nat_lt 256 (length e.1) then Some (length e.1) else many_copies es

-- neither table has more entries than the limit
pub record FitTables (limit : ℕ) (firsts : ArrivingTrees) (seconds : LeavingTrees) : Type 0 where
  pub arriving : arriving_count firsts ≤ limit
  pub leaving : leaving_count seconds ≤ limit

-- and no entry has more than 256 copies
pub record FitRules (limit : ℕ) (firsts : ArrivingTrees) (seconds : LeavingTrees) : Type 0 where
  pub tables : FitTables limit firsts seconds
  pub groups : many_copies (leaving_entries seconds) ≡ None

-- a table is full: table 0, or table 1 where table 0 isn't; with its entries, or the greatest number of 64 bits where there are more
abbrev pub IsTableFull : (limit first second : ℕ) → (table entries : ℕ) → Type 0
IsTableFull limit first second table entries =
    ((table ≡ 0) × (limit < first) × (entries ≡ capped first)) ⊎ ((table ≡ 1) × (first ≤ limit) × (limit < second) × (entries ≡ capped second))

-- why the trees of the switch give no tables
abbrev pub IsRulesFault : ℕ → ℕ → ArrivingTrees → LeavingTrees → RulesFault → Type 0
IsRulesFault datapath limit firsts seconds (TableFull switch table entries) =
    (switch ≡ datapath) × IsTableFull limit (arriving_count firsts) (leaving_count seconds) table entries
IsRulesFault datapath limit firsts seconds (GroupFull switch copies) =
    (switch ≡ datapath) × FitTables limit firsts seconds × (many_copies (leaving_entries seconds) ≡ Some copies)
IsRulesFault datapath limit firsts seconds Memory = Unit {0}

-- that a table is full, by this number of entries; or that there is no memory
abbrev pub IsFull : (datapath table limit : ℕ) → (count : ℕ) → RulesFault → Type 0
IsFull datapath table limit count (TableFull switch n entries) = (switch ≡ datapath) × (n ≡ table) × (limit < count) × (entries ≡ capped count)
IsFull datapath table limit count (GroupFull switch copies) = ⊥
IsFull datapath table limit count Memory = Unit {0}

-- that an entry has many copies
abbrev pub IsMany : ℕ → List (MatchFields × List Outgoing) → RulesFault → Type 0
IsMany datapath entries (TableFull switch n count) = ⊥
IsMany datapath entries (GroupFull switch copies) = (switch ≡ datapath) × (many_copies entries ≡ Some copies)
IsMany datapath entries Memory = ⊥
