-- The actions of an arrival and of a copy (OpenFlow 1.3.5, section 7.2.5), and the buckets of copies.
use Rattle.std.specs.Prelude.{ℕ, ◌+◌, Bool, true, false, List, [], ◌∷◌, ◌++◌, map, if◌then◌else◌}
use Rattle.std.specs.declared.option.Option.{Option}
use Rattle.std.specs.declared.option.Option.TheVariants.{None, Some}
use Rattle.std.specs.Option.{unwrap_or}
use Rattle.pq_fields.specs.declared.field.Field.{Field}
use Rattle.pq_fields.specs.declared.field.Field.TheVariants.{EthSrc, EthDst, Ipv4Src, Ipv4Dst, TcpSrc, TcpDst, UdpSrc, UdpDst}
use Rattle.pq_fields.specs.Writes.{Written}
use Rattle.pq_model.specs.declared.action.Action.{Action}
use Rattle.pq_model.specs.declared.action.Action.TheVariants.{Output, PushVlan, PopVlan, SetVlan, SetField}
use Rattle.pq_model.specs.declared.reserved.TheConstants.{CONTROLLER, IN_PORT}
use Rattle.pq_rewrite.specs.declared.outgoing.OutKind.{OutKind}
use Rattle.pq_rewrite.specs.declared.outgoing.OutKind.TheVariants.{Send, CaptureOut}
use Rattle.pq_rewrite.specs.declared.outgoing.Outgoing.{Outgoing}
use Rattle.pq_rewrite.specs.declared.trees.Arrive.{Arrive}
use Rattle.pq_rewrite.specs.declared.trees.Key.{Key}
use Rattle.pq_rewrite.specs.declared.trees.Key.TheVariants.{Plain, Tag}

-- the VLAN_VID word of a tag, and that of a key: 0 for packets without a header
abbrev pub tag_word : ℕ → ℕ
tag_word t = 0x1000 + t

abbrev pub key_word : Key → ℕ
key_word Plain = 0
key_word (Tag t) = tag_word t

-- a tag for packets that have one, or have none yet
abbrev pub tagging_actions : Bool → ℕ → List Action
tagging_actions true t = SetVlan (tag_word t) ∷ []
tagging_actions false t = PushVlan ∷ SetVlan (tag_word t) ∷ []

abbrev pub untagging_actions : Bool → List Action
untagging_actions true = PopVlan ∷ []
untagging_actions false = []

-- the actions of an arrival: its tag, and a copy to the collector where it captures
abbrev pub arrival_actions : Bool → Arrive → List Action
arrival_actions tagged a = tagging_actions tagged a.tag ++ (if a.capture then Output CONTROLLER ∷ [] else [])

-- the number that is written into a header field
abbrev pub set_field : Field → Option ℕ → List Action
set_field f None = []
set_field f (Some n) = SetField f n ∷ []

-- the numbers that are written into header fields, in field order
abbrev pub header_actions : Written → List Action
header_actions w =
    set_field EthSrc w.eth_src ++ set_field EthDst w.eth_dst ++ set_field Ipv4Src w.ipv4_src ++ set_field Ipv4Dst w.ipv4_dst
    ++ set_field TcpSrc w.tcp_src ++ set_field TcpDst w.tcp_dst ++ set_field UdpSrc w.udp_src ++ set_field UdpDst w.udp_dst

-- where a copy goes: to the collector, to the written port, or back where none is written
abbrev pub output_port : OutKind → Written → ℕ
output_port Send w = unwrap_or w.port IN_PORT
output_port CaptureOut w = CONTROLLER

abbrev pub tag_actions : Bool → Option ℕ → List Action
tag_actions tagged None = untagging_actions tagged
tag_actions tagged (Some t) = tagging_actions tagged t

-- the actions of a copy of a packet that has a tag, or has none
abbrev pub copy_actions : Bool → Outgoing → List Action
copy_actions tagged c = tag_actions tagged c.tag ++ header_actions c.writes ++ Output (output_port c.kind c.writes) ∷ []

-- one bucket per copy, of packets with a tag
abbrev pub buckets_of : List Outgoing → List (List Action)
buckets_of cs = map (copy_actions true) cs
