-- What the bytes of an action say; whether they are spelled as they must be is not asked here.
use Rattle.std.specs.Prelude.{ℕ, ◌/◌, ◌^◌, ◌<◌, All, List, [], length, get_or, take, drop, nat_lt, ◌==◌, if◌then◌else◌}
use Rattle.std.specs.declared.option.Option.{Option}
use Rattle.std.specs.declared.option.Option.TheVariants.{None, Some}
use Rattle.std.specs.Int.{w16, w32, from_be_bytes}
use Rattle.pq_fields.specs.declared.field.Field.TheVariants.{EthSrc, EthDst, Ipv4Src, Ipv4Dst, TcpSrc, TcpDst, UdpSrc, UdpDst}
use Rattle.pq_model.specs.declared.action.Action.{Action}
use Rattle.pq_model.specs.declared.action.Action.TheVariants.{Output, PushVlan, PopVlan, Group, SetVlan, SetField}
use Rattle.pq_model.specs.declared.message.Message.{Message}
use Rattle.pq_model.specs.declared.message.Message.TheVariants.{Flow, Group as Grouping, Barrier}
use Rattle.pq_model.specs.Spelling.{bucket_bytes, flow_body, group_body}
use Rattle.pq_model.specs.Lawful.{IsLawfulAction}
use Rattle.pq_oxm.specs.Reading.{mac_number}

-- the bytes of a number within an action
abbrev pub number_at : ℕ → ℕ → List ℕ → List ℕ
number_at place size bytes = take size (drop place bytes)

-- the field that a set-field sets, by the third byte of its OXM field, and the number after that field's header
unfoldable pub set_in : List ℕ → Option Action
set_in bytes =
    let field = get_or bytes 6 0 / 2 in
    if field == 6 then Some (SetVlan (from_be_bytes w16 (number_at 8 2 bytes)))
    else if field == 4 then Some (SetField EthSrc (mac_number (number_at 8 6 bytes)))
    else if field == 3 then Some (SetField EthDst (mac_number (number_at 8 6 bytes)))
    else if field == 11 then Some (SetField Ipv4Src (from_be_bytes w32 (number_at 8 4 bytes)))
    else if field == 12 then Some (SetField Ipv4Dst (from_be_bytes w32 (number_at 8 4 bytes)))
    else if field == 13 then Some (SetField TcpSrc (from_be_bytes w16 (number_at 8 2 bytes)))
    else if field == 14 then Some (SetField TcpDst (from_be_bytes w16 (number_at 8 2 bytes)))
    else if field == 15 then Some (SetField UdpSrc (from_be_bytes w16 (number_at 8 2 bytes)))
    else if field == 16 then Some (SetField UdpDst (from_be_bytes w16 (number_at 8 2 bytes)))
    else None

-- an action by its type
unfoldable pub action_in : List ℕ → Option Action
action_in bytes =
    let kind = get_or bytes 1 0 in
    if kind == 0 then Some (Output (from_be_bytes w32 (number_at 4 4 bytes)))
    else if kind == 17 then Some PushVlan
    else if kind == 18 then Some PopVlan
    else if kind == 22 then Some (Group (from_be_bytes w32 (number_at 4 4 bytes)))
    else if kind == 25 then (if nat_lt (length bytes) 16 then None else set_in bytes)
    else None

-- the type of a message, its transaction id, and what is after its header
abbrev pub message_kind : Message → ℕ
message_kind (Flow f) = 14
message_kind (Grouping g) = 15
message_kind (Barrier xid) = 20

abbrev pub message_xid : Message → ℕ
message_xid (Flow f) = f.xid
message_xid (Grouping g) = g.xid
message_xid (Barrier xid) = xid

abbrev pub message_body : Message → List ℕ
message_body (Flow f) = flow_body f
message_body (Grouping g) = group_body g
message_body (Barrier xid) = []

-- a bucket that can be read: its actions are lawful, and its length fits the two bytes that state it
abbrev pub IsReadable : List Action → Type 0
IsReadable actions = All IsLawfulAction actions × (length (bucket_bytes actions) < 2 ^ 16)
