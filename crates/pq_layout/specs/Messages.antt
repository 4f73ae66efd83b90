-- The messages that fill a switch's two tables from their trees.
use Rattle.std.specs.Prelude.{ℕ, suc, ◌+◌, ◌-◌, Bool, true, false, not, List, [], ◌∷◌, ◌++◌, length, map, if◌then◌else◌, ◌==◌}
use Rattle.std.specs.declared.option.Option.{Option}
use Rattle.std.specs.declared.option.Option.TheVariants.{None, Some}
use Rattle.std.specs.Cmp.Lexicographic.{pointwise}
use Rattle.std.specs.List.{filter, filter_map}
use Rattle.pq_model.specs.contracts.action.ActionPartialEq.TheImpl.{ghosts as actions}
use Rattle.pq_model.specs.declared.action.Action.{Action}
use Rattle.pq_model.specs.declared.action.Action.TheVariants.{Group}
use Rattle.pq_model.specs.declared.flow_mod.FlowCommand.TheVariants.{Add as AddFlow, DeleteAll}
use Rattle.pq_model.specs.declared.group_mod.GroupCommand.TheVariants.{Add as AddGroup, Delete}
use Rattle.pq_model.specs.declared.message.Message.{Message}
use Rattle.pq_model.specs.MatchFields.{MatchFields, empty_match}
use Rattle.pq_model.specs.Mods.{FlowValue, GroupValue}
use Rattle.pq_model.specs.Renewal.{Renewal, renewal_messages}
use Rattle.pq_model.specs.declared.reserved.TheConstants.{ALL_GROUPS}
use Rattle.pq_rewrite.specs.declared.outgoing.Outgoing.{Outgoing}
use Rattle.pq_rewrite.specs.declared.trees.Arrive.{Arrive}
use Rattle.pq_store.specs.Tree.{Tree}
use Rattle.pq_layout.specs.Actions.{arrival_actions, buckets_of, copy_actions}
use Rattle.pq_layout.specs.Entries.{table_of}

-- what an entry does with the packets that it covers
pub record Rule : Type 0 where
  pub matching : MatchFields
  pub actions : List Action
  pub goto : Option ℕ

-- Table 0.

abbrev pub ArrivingTrees : Type 0
ArrivingTrees = List (ℕ × Tree (Option Arrive))

abbrev pub is_nothing : Option Arrive → Bool
is_nothing None = true
is_nothing (Some a) = false

-- whether the match is of packets without a VLAN header
abbrev pub is_untagged : Option ℕ → Bool
is_untagged None = false
is_untagged (Some word) = word == 0

abbrev pub first_rule : MatchFields × Option Arrive → Rule
first_rule (m, None) = record { matching = m; actions = []; goto = None }
first_rule (m, Some a) = record { matching = m; actions = arrival_actions (not (is_untagged m.vlan)) a; goto = Some 1 }

abbrev pub first_rules : ArrivingTrees → List Rule
first_rules trees = map first_rule (table_of is_nothing trees)

-- Table 1.

abbrev pub LeavingTrees : Type 0
LeavingTrees = List (ℕ × Tree (List Outgoing))

abbrev pub is_without : List Outgoing → Bool
is_without [] = true
is_without (c ∷ cs) = false

-- the matches and copies of table 1
abbrev pub leaving_entries : LeavingTrees → List (MatchFields × List Outgoing)
leaving_entries trees = table_of is_without trees

abbrev pub Buckets : Type 0
Buckets = List (List Action)

abbrev pub same_buckets : Buckets → Buckets → Bool
same_buckets = pointwise (pointwise actions.eq)

-- a list of more than one copy needs a group
abbrev pub group_needed : List Outgoing → Option Buckets
group_needed [] = None
group_needed (c ∷ []) = None
group_needed (c ∷ d ∷ cs) = Some (buckets_of (c ∷ d ∷ cs))

-- each once, where it is first
abbrev pub each_once : List Buckets → List Buckets
each_once [] = []
each_once (b ∷ bs) = b ∷ filter (λ c. not (same_buckets b c)) (each_once bs)

-- the groups: the distinct bucket lists by first use in entry order
abbrev pub groups_of : List (MatchFields × List Outgoing) → List Buckets
groups_of entries = each_once (filter_map (λ e. group_needed e.1) entries)

-- the number of the group with these buckets: groups are numbered from 1
abbrev pub group_number : List Buckets → Buckets → ℕ
group_number [] b = 1
group_number (c ∷ cs) b = if same_buckets c b then 1 else suc (group_number cs b)

abbrev pub leaving_actions : List Buckets → List Outgoing → List Action
leaving_actions groups [] = []
leaving_actions groups (c ∷ []) = copy_actions true c
leaving_actions groups (c ∷ d ∷ cs) = Group (group_number groups (buckets_of (c ∷ d ∷ cs))) ∷ []

abbrev pub second_rule : List Buckets → MatchFields × List Outgoing → Rule
second_rule groups e = record { matching = e.0; actions = leaving_actions groups e.1; goto = None }

abbrev pub second_rules : LeavingTrees → List Rule
second_rules trees = map (second_rule (groups_of (leaving_entries trees))) (leaving_entries trees)

-- Messages.

-- the Adds of a table's entries: priority 65535 less the entry's index in its table
abbrev pub adds_from : (xid table index : ℕ) → List Rule → List FlowValue
adds_from xid table index [] = []
adds_from xid table index (r ∷ rs) = record {
  xid = xid;
  cookie = 0;
  table = table;
  command = AddFlow;
  priority = 65535 - index;
  matching = r.matching;
  actions = r.actions;
  goto = r.goto;
} ∷ adds_from (suc xid) table (suc index) rs

-- the ADDs of groups
abbrev pub groups_from : (xid number : ℕ) → List Buckets → List GroupValue
groups_from xid number [] = []
groups_from xid number (b ∷ bs) = record { xid = xid; command = AddGroup; group = number; buckets = b } ∷ groups_from (suc xid) (suc number) bs

abbrev pub delete_entries : FlowValue
delete_entries = record { xid = 1; cookie = 0; table = 0xff; command = DeleteAll; priority = 0; matching = empty_match; actions = []; goto = None }

abbrev pub delete_groups : GroupValue
delete_groups = record { xid = 2; command = Delete; group = ALL_GROUPS; buckets = [] }

-- groups and the rules of both tables as messages, with xids from 1 on: all is deleted, groups are added, then entries
abbrev pub renewal_with : List Buckets → List Rule → List Rule → Renewal
renewal_with groups first second =
    let grouped = 4 + length groups in
    let filled = suc grouped + length first in
    record {
      entries_away = delete_entries;
      groups_away = delete_groups;
      groups = groups_from 4 1 groups;
      entries = adds_from (suc grouped) 0 0 first ++ adds_from filled 1 0 second;
      emptied = 3;
      grouped = grouped;
      filled = filled + length second;
    }

abbrev pub renewal_of : ArrivingTrees → LeavingTrees → Renewal
renewal_of first second = renewal_with (groups_of (leaving_entries second)) (first_rules first) (second_rules second)

-- the messages of a switch with these trees
abbrev pub messages_of : ArrivingTrees → LeavingTrees → List Message
messages_of first second = renewal_messages (renewal_of first second)
