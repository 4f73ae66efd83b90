-- The switch machine: what messages do to a switch's tables, and what it sends for a packet (OpenFlow 1.3.5, sections 5 and 7.3.4).
use Rattle.std.specs.Prelude.{ℕ, zero, suc, ◌-◌, Bool, true, List, [], ◌∷◌, ◌++◌, map, not, nat_lt, ◌==◌, ◌&&◌, if◌then◌else◌}
use Rattle.std.specs.declared.option.Option.{Option}
use Rattle.std.specs.declared.option.Option.TheVariants.{None, Some}
use Rattle.std.specs.List.{filter, filter_map, flat_map, list_any, list_all}
use Rattle.std.specs.Ordering.{nat_cmp}
use Rattle.std.specs.FinMap.{FinMap, empty, get, insert, contains_key, remove}
use Rattle.pq_fields.specs.Packet.{has_field, with_number}
use Rattle.pq_model.specs.declared.action.Action.{Action}
use Rattle.pq_model.specs.declared.action.Action.TheVariants.{Output, PushVlan, PopVlan, Group, SetVlan, SetField}
use Rattle.pq_model.specs.declared.flow_mod.FlowCommand.{FlowCommand}
use Rattle.pq_model.specs.declared.flow_mod.FlowCommand.TheVariants.{Add as AddFlow, DeleteAll, DeleteStrict}
use Rattle.pq_model.specs.declared.group_mod.GroupCommand.{GroupCommand}
use Rattle.pq_model.specs.declared.group_mod.GroupCommand.TheVariants.{Add as AddGroup, Modify, Delete}
use Rattle.pq_model.specs.declared.message.Message.{Message}
use Rattle.pq_model.specs.declared.message.Message.TheVariants.{Flow, Group as Grouping, Barrier}
use Rattle.pq_model.specs.declared.tagged.Sent.{Sent}
use Rattle.pq_model.specs.declared.tagged.Sent.TheVariants.{Port, Controller}
use Rattle.pq_model.specs.Tagged.{TaggedPacket, tagged_numbers}
use Rattle.pq_model.specs.MatchFields.{MatchFields, covers, same_match}
use Rattle.pq_model.specs.Mods.{FlowValue, GroupValue}
use Rattle.pq_model.specs.Sorting.{sort_by}
use Rattle.pq_model.specs.declared.reserved.TheConstants.{IN_PORT, CONTROLLER, ALL_GROUPS}

pub record Entry : Type 0 where
  pub table : ℕ
  pub priority : ℕ
  pub matching : MatchFields
  pub cookie : ℕ
  pub actions : List Action
  pub goto : Option ℕ

-- the buckets of each group, by its number
abbrev pub Groups : Type 0
Groups = FinMap nat_cmp (List (List Action))

-- the entries in the order in which they were added, and the groups
pub record Tables : Type 0 where
  pub entries : List Entry
  pub groups : Groups

abbrev pub no_groups : Groups
no_groups = empty

abbrev pub no_tables : Tables
no_tables = record { entries = []; groups = no_groups }

-- Messages.

abbrev pub entry_of : FlowValue → Entry
entry_of f = record { table = f.table; priority = f.priority; matching = f.matching; cookie = f.cookie; actions = f.actions; goto = f.goto }

-- whether the entry has this table, match and priority
abbrev pub is_placed : FlowValue → Entry → Bool
is_placed f e = (e.table == f.table) && (e.priority == f.priority) && same_match e.matching f.matching

abbrev pub group_named : Action → Option ℕ
group_named (Group n) = Some n
group_named (Output p) = None
group_named PushVlan = None
group_named PopVlan = None
group_named (SetVlan w) = None
group_named (SetField f n) = None

-- the numbers of the groups that the actions name
abbrev pub groups_named : List Action → List ℕ
groups_named actions = filter_map group_named actions

-- an Add that names a group that isn't there changes nothing
abbrev pub changes_entries : FlowCommand → FlowValue → Tables → Tables
changes_entries AddFlow f t =
    if list_all (contains_key t.groups) (groups_named f.actions)
    then record t { entries = filter (λ e. not (is_placed f e)) t.entries ++ entry_of f ∷ [] }
    else t
changes_entries DeleteAll f t = record t { entries = [] }
changes_entries DeleteStrict f t = record t { entries = filter (λ e. not (is_placed f e)) t.entries }

-- whether deleting the group of this number removes the group with number n
abbrev pub is_removed : Groups → ℕ → ℕ → Bool
is_removed groups number n = contains_key groups n && (if number == ALL_GROUPS then true else n == number)

abbrev pub removed_from : Groups → ℕ → Groups
removed_from groups number = if number == ALL_GROUPS then no_groups else remove groups number

-- an ADD of a number that is taken, and a MODIFY of one that isn't there, change nothing; DELETE takes the entries that name a removed group along
abbrev pub changes_groups : GroupCommand → GroupValue → Tables → Tables
changes_groups AddGroup g t = if contains_key t.groups g.group then t else record t { groups = insert t.groups g.group g.buckets }
changes_groups Modify g t = if contains_key t.groups g.group then record t { groups = insert t.groups g.group g.buckets } else t
changes_groups Delete g t = record {
  entries = filter (λ e. not (list_any (is_removed t.groups g.group) (groups_named e.actions))) t.entries;
  groups = removed_from t.groups g.group;
}

-- the tables after one message
abbrev pub applies : Tables → Message → Tables
applies t (Flow f) = changes_entries f.command f t
applies t (Grouping g) = changes_groups g.command g t
applies t (Barrier xid) = t

-- the tables after messages in this order
abbrev pub applies_all : Tables → List Message → Tables
applies_all t [] = t
applies_all t (m ∷ ms) = applies_all (applies t m) ms

-- Packets.

abbrev pub better : Entry → Option Entry → Option Entry
better e None = Some e
better e (Some f) = if nat_lt e.priority f.priority then Some f else Some e

-- the covering entry of highest priority in a table; of several, the one added first
abbrev pub taken : List Entry → ℕ → TaggedPacket → Option Entry
taken [] n x = None
taken (e ∷ es) n x = if (e.table == n) && covers e.matching x then better e (taken es n x) else taken es n x

-- PushVlan on a packet that has a header changes nothing, and so does SetField of VLAN_VID on one that has none
abbrev pub pushed : Option ℕ → Option ℕ
pushed None = Some 0
pushed (Some t) = Some t

abbrev pub renamed : ℕ → Option ℕ → Option ℕ
renamed word None = None
renamed word (Some t) = Some (word - 0x1000)

-- the packet after an action; SetField of a field that the packet doesn't have changes nothing
abbrev pub changed : Action → TaggedPacket → TaggedPacket
changed (Output p) x = x
changed PushVlan x = record x { vlan = pushed x.vlan }
changed PopVlan x = record x { vlan = None }
changed (Group n) x = x
changed (SetVlan word) x = record x { vlan = renamed word x.vlan }
changed (SetField f n) x = if has_field f x.packet then record x { packet = with_number f n x.packet } else x

abbrev pub changed_by : List Action → TaggedPacket → TaggedPacket
changed_by [] x = x
changed_by (a ∷ as_) x = changed_by as_ (changed a x)

-- what an Output sends; to the number of the arriving port it sends nothing
abbrev pub outputs : ℕ → TaggedPacket → List Sent
outputs p x =
    if p == IN_PORT then Port x ∷ []
    else if p == CONTROLLER then Controller x ∷ []
    else if p == x.packet.port then []
    else Port (record x { packet = record x.packet { port = p } }) ∷ []

-- the actions run in order, each on the packet as it is then
abbrev pub runs : (Action → TaggedPacket → List Sent) → List Action → TaggedPacket → List Sent
runs emits [] x = []
runs emits (a ∷ as_) x = emits a x ++ runs emits as_ (changed a x)

-- what an action of a bucket sends; a bucket has no Group action
abbrev pub emits_in_bucket : Action → TaggedPacket → List Sent
emits_in_bucket (Output p) x = outputs p x
emits_in_bucket PushVlan x = []
emits_in_bucket PopVlan x = []
emits_in_bucket (Group n) x = []
emits_in_bucket (SetVlan word) x = []
emits_in_bucket (SetField f n) x = []

abbrev pub buckets_in : Option (List (List Action)) → List (List Action)
buckets_in None = []
buckets_in (Some buckets) = buckets

-- what an action of an entry sends; each bucket of a group runs on a copy of its own
abbrev pub emits : Groups → Action → TaggedPacket → List Sent
emits groups (Output p) x = outputs p x
emits groups PushVlan x = []
emits groups PopVlan x = []
emits groups (Group n) x = flat_map (λ b. runs emits_in_bucket b x) (buckets_in (get groups n))
emits groups (SetVlan word) x = []
emits groups (SetField f n) x = []

-- what is sent from a table on, through at most this many tables; `onward` does the same with one table fewer
abbrev pub sent_onward : (ℕ → TaggedPacket → List Sent) → Option ℕ → TaggedPacket → List Sent
sent_onward onward None x = []
sent_onward onward (Some n) x = onward n x

abbrev pub sent_by_entry : (ℕ → TaggedPacket → List Sent) → Groups → TaggedPacket → Option Entry → List Sent
sent_by_entry onward groups x None = []
sent_by_entry onward groups x (Some e) = runs (emits groups) e.actions x ++ sent_onward onward e.goto (changed_by e.actions x)

abbrev pub sent_from_table : ℕ → Tables → ℕ → TaggedPacket → List Sent
sent_from_table zero t n x = []
sent_from_table (suc more) t n x = sent_by_entry (sent_from_table more t) t.groups x (taken t.entries n x)

-- the copies of a packet in the order of the actions; GOTO_TABLE leads up, to 254 at the most, so a packet passes at most 255 tables
unfoldable pub copies : Tables → TaggedPacket → List Sent
copies t x = sent_from_table 255 t 0 x

abbrev pub port_copy : Sent → Option TaggedPacket
port_copy (Port x) = Some x
port_copy (Controller x) = None

abbrev pub controller_copy : Sent → Option TaggedPacket
controller_copy (Port x) = None
controller_copy (Controller x) = Some x

-- the copies to ports and those to the controller
abbrev pub to_ports : List Sent → List TaggedPacket
to_ports sent = filter_map port_copy sent

abbrev pub to_controller : List Sent → List TaggedPacket
to_controller sent = filter_map controller_copy sent

-- copies to ports are first, each part in packet order and then by VLAN number, a copy without a header first
abbrev pub in_order : List Sent → List Sent
in_order sent = map Port (sort_by tagged_numbers (to_ports sent)) ++ map Controller (sort_by tagged_numbers (to_controller sent))

-- what a switch with these tables sends for an arriving packet
abbrev pub sends : Tables → TaggedPacket → List Sent
sends t x = in_order (copies t x)
