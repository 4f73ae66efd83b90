-- The messages that fill a switch's tables, one after another.
use Rattle.std.specs.Prelude.{◌≡◌, ◌-◌, ◌<◌, ℕ, List, [], All, IfSome, map}
use Rattle.std.specs.declared.option.Option.{Option}
use Rattle.std.specs.declared.option.Option.TheVariants.{None}
use Rattle.pq_model.specs.declared.action.Action.{Action}
use Rattle.pq_model.specs.declared.flow_mod.FlowCommand.TheVariants.{Add as AddFlow}
use Rattle.pq_model.specs.declared.group_mod.GroupCommand.TheVariants.{Add as AddGroup}
use Rattle.pq_model.specs.declared.message.Message.{Message}
use Rattle.pq_model.specs.MatchFields.{MatchFields}
use Rattle.pq_model.specs.Mods.{FlowValue, GroupValue}
use Rattle.pq_model.specs.Renewal.{renewal_messages}
use Rattle.pq_rewrite.specs.declared.outgoing.Outgoing.{Outgoing}
use Rattle.pq_rewrite.specs.declared.trees.Arrive.{Arrive}
use Rattle.pq_store.specs.Tree.{Tree}
use Rattle.pq_layout.specs.Actions.{buckets_of}
use Rattle.pq_layout.specs.Messages.{Buckets, Rule, first_rule, groups_of, renewal_with, second_rule}
use Rattle.pq_layout.specs.Sound.{IsSoundArrival, IsSoundCopy}
use Rattle.pq_rules.specs.Grouping.{IsLeafAt, leaf_at, placed_rules}

-- the Add of an entry
abbrev pub add_of : (xid table index : ℕ) → Rule → FlowValue
add_of xid table index r = record {
  xid = xid;
  cookie = 0;
  table = table;
  command = AddFlow;
  priority = 65535 - index;
  matching = r.matching;
  actions = r.actions;
  goto = r.goto;
}

-- the ADD of a group
abbrev pub group_of : (xid number : ℕ) → Buckets → GroupValue
group_of xid number b = record { xid = xid; command = AddGroup; group = number; buckets = b }

-- the actions and the table to go to are those of the rule
abbrev pub IsRule : Rule → List Action → Option ℕ → Type 0
IsRule r actions goto = (actions ≡ r.actions) × (goto ≡ r.goto)

-- the leaf of an entry of table 0 is sound, and that of an entry of table 1
abbrev pub IsArrivingLeaf : List (Tree (Option Arrive)) → ℕ → Type 0
IsArrivingLeaf ts k = IsLeafAt ts k × IsSoundArrival (leaf_at None ts k)

abbrev pub IsLeavingLeaf : List (Tree (List Outgoing)) → ℕ → Type 0
IsLeavingLeaf ts k = IsLeafAt ts k × All IsSoundCopy (leaf_at [] ts k)

-- so few that all of them can be numbered
abbrev pub few : ℕ
few = 16384

-- places of few groups
abbrev pub AreFewPlaces : List (Option ℕ) → Type 0
AreFewPlaces ps = All (λ p. IfSome p (λ n. n < few)) ps

-- a rule with these parts
abbrev pub rule_of : MatchFields → List Action → Option ℕ → Rule
rule_of m actions goto = record { matching = m; actions = actions; goto = goto }

-- the messages of groups, given as copies, and of the entries of both tables, those of table 1 with the places of their groups
abbrev pub messages_by : List (List Outgoing) → List (Option ℕ) → List (MatchFields × Option Arrive) → List (MatchFields × List Outgoing) → List Message
messages_by groups places first second = renewal_messages (renewal_with (map buckets_of groups) (map first_rule first) (placed_rules second places))

-- the messages of the entries of both tables
abbrev pub messages_for : List (MatchFields × Option Arrive) → List (MatchFields × List Outgoing) → List Message
messages_for first second = renewal_messages (renewal_with (groups_of second) (map first_rule first) (map (second_rule (groups_of second)) second))
