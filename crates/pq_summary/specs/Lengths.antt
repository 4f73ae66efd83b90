-- How long the bytes of an install are, by its parts (OpenFlow 1.3.5, sections 7.1, 7.2.3 to 7.2.5, 7.3.4 and 7.3.8).
use Rattle.std.specs.Prelude.{ℕ, ◌+◌, ◌*◌, List, [], ◌∷◌, length, sum_by, ◌==◌, if◌then◌else◌}
use Rattle.std.specs.declared.option.Option.{Option}
use Rattle.std.specs.declared.option.Option.TheVariants.{None, Some}
use Rattle.pq_model.specs.declared.action.Action.{Action}
use Rattle.pq_model.specs.declared.action.Action.TheVariants.{Output, PushVlan, PopVlan, Group, SetVlan, SetField}
use Rattle.pq_model.specs.declared.message.Message.{Message}
use Rattle.pq_model.specs.declared.message.Message.TheVariants.{Flow, Group as Grouping, Barrier}
use Rattle.pq_model.specs.Buckets.{Instance}
use Rattle.pq_model.specs.Install.{Install}
use Rattle.pq_model.specs.MatchFields.{MatchFields}
use Rattle.pq_model.specs.Mods.{FlowValue, GroupValue}
use Rattle.pq_model.specs.Spelling.{ones32, ones128, padding}
use Rattle.pq_model.specs.TablesMachine.{Row}
use Rattle.pq_model.specs.Topology.{Switch}

-- a field of a match: a head of four bytes, and the value
abbrev pub stated_length : {A : Type 0} → ℕ → Option A → ℕ
stated_length size None = 0
stated_length size (Some n) = 4 + size

-- an address, with its mask but where that is all ones
abbrev pub masked_length : ℕ → ℕ → Option (ℕ × ℕ) → ℕ
masked_length size ones None = 0
masked_length size ones (Some a) = if a.1 == ones then 4 + size else (4 + size + size)

-- the fields of a match
unfoldable pub oxms_length : MatchFields → ℕ
oxms_length m =
    stated_length 4 m.in_port
    + stated_length 2 m.vlan
    + stated_length 2 m.eth_type
    + stated_length 1 m.ip_proto
    + stated_length 6 m.eth_src
    + stated_length 6 m.eth_dst
    + masked_length 4 ones32 m.ipv4_src
    + masked_length 4 ones32 m.ipv4_dst
    + stated_length 2 m.tcp_src
    + stated_length 2 m.tcp_dst
    + stated_length 2 m.udp_src
    + stated_length 2 m.udp_dst
    + masked_length 16 ones128 m.ipv6_src
    + masked_length 16 ones128 m.ipv6_dst

abbrev pub match_length : MatchFields → ℕ
match_length m = 4 + oxms_length m + padding (4 + oxms_length m)

abbrev pub action_length : Action → ℕ
action_length (Output port) = 16
action_length PushVlan = 8
action_length PopVlan = 8
action_length (Group n) = 8
action_length (SetVlan word) = 16
action_length (SetField f n) = 16

abbrev pub actions_length : List Action → ℕ
actions_length actions = sum_by action_length actions

-- the instructions of an entry
abbrev pub apply_length : List Action → ℕ
apply_length [] = 0
apply_length (a ∷ actions) = 8 + actions_length (a ∷ actions)

abbrev pub goto_length : Option ℕ → ℕ
goto_length None = 0
goto_length (Some table) = 8

-- messages, with their headers
abbrev pub flow_length : FlowValue → ℕ
flow_length f = 48 + match_length f.matching + apply_length f.actions + goto_length f.goto

abbrev pub bucket_length : List Action → ℕ
bucket_length actions = 16 + actions_length actions

abbrev pub group_length : GroupValue → ℕ
group_length g = 16 + sum_by bucket_length g.buckets

abbrev pub message_length : Message → ℕ
message_length (Flow f) = flow_length f
message_length (Grouping g) = group_length g
message_length (Barrier xid) = 8

-- the messages to a switch
abbrev pub list_length : List Message → ℕ
list_length messages = 4 + sum_by message_length messages

abbrev pub switch_length : Switch → ℕ
switch_length s = 10 + 4 * length s.ports

abbrev pub name_length : List ℕ → ℕ
name_length name = 1 + length name

abbrev pub pair_length : Instance → ℕ
pair_length i = 6 + 8 * length i.label

abbrev pub row_length : Row → ℕ
row_length row = 4 + sum_by pair_length row.pairs

-- an install: the magic, four counts, switches, links, names, rows, and messages
unfoldable pub install_length : Install → ℕ
install_length i =
    12
    + sum_by switch_length i.topology.switches
    + 24 * length i.topology.links
    + sum_by name_length i.queries
    + sum_by row_length i.report
    + sum_by list_length i.messages
