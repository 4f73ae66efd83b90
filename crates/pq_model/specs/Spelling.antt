-- The bytes of messages (OpenFlow 1.3.5, sections 7.1, 7.2.3 to 7.2.5, 7.3.4 and 7.3.8). All numbers are big-endian.
use Rattle.std.specs.Prelude.{ℕ, ◌+◌, ◌-◌, ◌*◌, ◌%◌, List, [], ◌∷◌, ◌++◌, length, drop, replicate, ◌==◌, if◌then◌else◌}
use Rattle.std.specs.declared.option.Option.{Option}
use Rattle.std.specs.declared.option.Option.TheVariants.{None, Some}
use Rattle.std.specs.Int.{w16, w32, w64, w128, to_be_bytes}
use Rattle.std.specs.List.{flat_map}
use Rattle.pq_fields.specs.declared.field.Field.{Field}
use Rattle.pq_fields.specs.declared.field.Field.TheVariants.{Switch, Port, EthType, IpProto, EthSrc, EthDst, Ipv4Src, Ipv4Dst, TcpSrc}
use Rattle.pq_fields.specs.declared.field.Field.TheVariants.{TcpDst, UdpSrc, UdpDst, Ipv6Src, Ipv6Dst}
use Rattle.pq_model.specs.declared.action.Action.{Action}
use Rattle.pq_model.specs.declared.action.Action.TheVariants.{Output, PushVlan, PopVlan, Group, SetVlan, SetField}
use Rattle.pq_model.specs.declared.flow_mod.FlowCommand.{FlowCommand}
use Rattle.pq_model.specs.declared.flow_mod.FlowCommand.TheVariants.{Add as AddFlow, DeleteAll, DeleteStrict}
use Rattle.pq_model.specs.declared.group_mod.GroupCommand.{GroupCommand}
use Rattle.pq_model.specs.declared.group_mod.GroupCommand.TheVariants.{Add as AddGroup, Modify, Delete}
use Rattle.pq_model.specs.declared.message.Message.{Message}
use Rattle.pq_model.specs.declared.message.Message.TheVariants.{Flow, Group as Grouping, Barrier}
use Rattle.pq_model.specs.MatchFields.{MatchFields}
use Rattle.pq_model.specs.Mods.{FlowValue, GroupValue}
use Rattle.pq_model.specs.declared.reserved.TheConstants.{CONTROLLER}

-- how many zeros make a length a multiple of eight
abbrev pub padding : ℕ → ℕ
padding n = (8 - n % 8) % 8

abbrev pub padded : List ℕ → List ℕ
padded bytes = bytes ++ replicate (padding (length bytes)) 0

-- a MAC address: the low six bytes
abbrev pub mac_bytes : ℕ → List ℕ
mac_bytes n = drop 2 (to_be_bytes w64 n)

abbrev pub byte : ℕ → List ℕ
byte n = n ∷ []

-- an OXM field of class OPENFLOW_BASIC without a mask, and one with a mask
abbrev pub oxm : ℕ → List ℕ → List ℕ
oxm field value = 0x80 ∷ 0x00 ∷ (field * 2) ∷ length value ∷ value

abbrev pub oxm_masked : ℕ → List ℕ → List ℕ → List ℕ
oxm_masked field value mask = 0x80 ∷ 0x00 ∷ (field * 2 + 1) ∷ (length value + length mask) ∷ (value ++ mask)

-- a field that is stated, and none where it isn't
abbrev pub stated : ℕ → (ℕ → List ℕ) → Option ℕ → List ℕ
stated field bytes None = []
stated field bytes (Some n) = oxm field (bytes n)

-- an address with its mask; the mask of all ones is left out
abbrev pub stated_masked : ℕ → (ℕ → List ℕ) → ℕ → Option (ℕ × ℕ) → List ℕ
stated_masked field bytes ones None = []
stated_masked field bytes ones (Some a) = if a.1 == ones then oxm field (bytes a.0) else oxm_masked field (bytes a.0) (bytes a.1)

abbrev pub ones32 : ℕ
ones32 = 0xffffffff

abbrev pub ones128 : ℕ
ones128 = 0xffffffffffffffffffffffffffffffff

-- the OXM fields of a match, in their fixed order
unfoldable pub match_oxms : MatchFields → List ℕ
match_oxms m =
    stated 0 (to_be_bytes w32) m.in_port
    ++ stated 6 (to_be_bytes w16) m.vlan
    ++ stated 5 (to_be_bytes w16) m.eth_type
    ++ stated 10 byte m.ip_proto
    ++ stated 4 mac_bytes m.eth_src
    ++ stated 3 mac_bytes m.eth_dst
    ++ stated_masked 11 (to_be_bytes w32) ones32 m.ipv4_src
    ++ stated_masked 12 (to_be_bytes w32) ones32 m.ipv4_dst
    ++ stated 13 (to_be_bytes w16) m.tcp_src
    ++ stated 14 (to_be_bytes w16) m.tcp_dst
    ++ stated 15 (to_be_bytes w16) m.udp_src
    ++ stated 16 (to_be_bytes w16) m.udp_dst
    ++ stated_masked 26 (to_be_bytes w128) ones128 m.ipv6_src
    ++ stated_masked 27 (to_be_bytes w128) ones128 m.ipv6_dst

-- a match of type OXM, with its length without the padding
unfoldable pub match_bytes : MatchFields → List ℕ
match_bytes m = padded (0 ∷ 1 ∷ (to_be_bytes w16 (4 + length (match_oxms m)) ++ match_oxms m))

-- the OXM field that a set-field carries; only header fields that a policy writes are set
abbrev pub set_oxm : Field → ℕ → List ℕ
set_oxm Switch n = []
set_oxm Port n = []
set_oxm EthType n = []
set_oxm IpProto n = []
set_oxm EthSrc n = oxm 4 (mac_bytes n)
set_oxm EthDst n = oxm 3 (mac_bytes n)
set_oxm Ipv4Src n = oxm 11 (to_be_bytes w32 n)
set_oxm Ipv4Dst n = oxm 12 (to_be_bytes w32 n)
set_oxm TcpSrc n = oxm 13 (to_be_bytes w16 n)
set_oxm TcpDst n = oxm 14 (to_be_bytes w16 n)
set_oxm UdpSrc n = oxm 15 (to_be_bytes w16 n)
set_oxm UdpDst n = oxm 16 (to_be_bytes w16 n)
set_oxm Ipv6Src n = []
set_oxm Ipv6Dst n = []

-- the whole packet goes to the controller, and none of it is kept back for a port
abbrev pub max_len : ℕ → ℕ
max_len port = if port == CONTROLLER then 0xffff else 0

-- an action with its type and its length
unfoldable pub action_bytes : Action → List ℕ
action_bytes (Output port) = 0 ∷ 0 ∷ 0 ∷ 16 ∷ (to_be_bytes w32 port ++ to_be_bytes w16 (max_len port) ++ replicate 6 0)
action_bytes PushVlan = 0 ∷ 17 ∷ 0 ∷ 8 ∷ 0x81 ∷ 0x00 ∷ 0 ∷ 0 ∷ []
action_bytes PopVlan = 0 ∷ 18 ∷ 0 ∷ 8 ∷ 0 ∷ 0 ∷ 0 ∷ 0 ∷ []
action_bytes (Group n) = 0 ∷ 22 ∷ 0 ∷ 8 ∷ to_be_bytes w32 n
action_bytes (SetVlan word) = padded (0 ∷ 25 ∷ 0 ∷ 16 ∷ oxm 6 (to_be_bytes w16 word))
action_bytes (SetField f n) = padded (0 ∷ 25 ∷ 0 ∷ 16 ∷ set_oxm f n)

abbrev pub actions_bytes : List Action → List ℕ
actions_bytes actions = flat_map action_bytes actions

-- APPLY_ACTIONS, where there are actions
unfoldable pub apply_bytes : List Action → List ℕ
apply_bytes [] = []
apply_bytes (a ∷ as_) = 0 ∷ 4 ∷ (to_be_bytes w16 (8 + length (actions_bytes (a ∷ as_))) ++ replicate 4 0 ++ actions_bytes (a ∷ as_))

-- GOTO_TABLE, where the entry goes on
unfoldable pub goto_bytes : Option ℕ → List ℕ
goto_bytes None = []
goto_bytes (Some table) = 0 ∷ 1 ∷ 0 ∷ 8 ∷ table ∷ 0 ∷ 0 ∷ 0 ∷ []

-- a message of version 0x04, with its type, its whole length and its transaction id
unfoldable pub with_header : ℕ → ℕ → List ℕ → List ℕ
with_header kind xid body = 0x04 ∷ kind ∷ (to_be_bytes w16 (8 + length body) ++ to_be_bytes w32 xid ++ body)

abbrev pub flow_code : FlowCommand → ℕ
flow_code AddFlow = 0
flow_code DeleteAll = 3
flow_code DeleteStrict = 4

-- FLOW_MOD: cookie, no cookie mask, table, command, no timeouts, priority, no buffer, any port and group, no flags
unfoldable pub flow_body : FlowValue → List ℕ
flow_body f =
    to_be_bytes w64 f.cookie ++ replicate 8 0 ++ f.table ∷ flow_code f.command ∷ 0 ∷ 0 ∷ 0 ∷ 0 ∷ []
    ++ to_be_bytes w16 f.priority ++ replicate 12 0xff ++ replicate 4 0
    ++ match_bytes f.matching ++ apply_bytes f.actions ++ goto_bytes f.goto

abbrev pub group_code : GroupCommand → ℕ
group_code AddGroup = 0
group_code Modify = 1
group_code Delete = 2

-- a bucket: its length, weight 0, no port or group to watch
unfoldable pub bucket_bytes : List Action → List ℕ
bucket_bytes actions = to_be_bytes w16 (16 + length (actions_bytes actions)) ++ replicate 2 0 ++ replicate 8 0xff ++ replicate 4 0 ++ actions_bytes actions

-- GROUP_MOD of type ALL
unfoldable pub group_body : GroupValue → List ℕ
group_body g = 0 ∷ group_code g.command ∷ 0 ∷ 0 ∷ (to_be_bytes w32 g.group ++ flat_map bucket_bytes g.buckets)

-- FLOW_MOD has type 14, GROUP_MOD 15 and BARRIER_REQUEST 20
unfoldable pub message_bytes : Message → List ℕ
message_bytes (Flow f) = with_header 14 f.xid (flow_body f)
message_bytes (Grouping g) = with_header 15 g.xid (group_body g)
message_bytes (Barrier xid) = with_header 20 xid []
