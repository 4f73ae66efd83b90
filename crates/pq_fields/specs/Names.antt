-- The names of fields.
use Rattle.std.specs.Prelude.{List, [], ◌∷◌, ℕ, codes, bytes_eq, Option}
use Rattle.std.specs.List.{find}
use Rattle.pq_fields.specs.declared.field.Field.{Field}
use Rattle.pq_fields.specs.declared.field.Field.TheVariants.{Switch, Port, EthType, IpProto, EthSrc, EthDst, Ipv4Src, Ipv4Dst, TcpSrc}
use Rattle.pq_fields.specs.declared.field.Field.TheVariants.{TcpDst, UdpSrc, UdpDst, Ipv6Src, Ipv6Dst}

-- the name of a field
abbrev pub field_name : Field → List ℕ
field_name Switch = codes "switch"
field_name Port = codes "port"
field_name EthType = codes "eth_type"
field_name IpProto = codes "ip_proto"
field_name EthSrc = codes "eth_src"
field_name EthDst = codes "eth_dst"
field_name Ipv4Src = codes "ipv4_src"
field_name Ipv4Dst = codes "ipv4_dst"
field_name TcpSrc = codes "tcp_src"
field_name TcpDst = codes "tcp_dst"
field_name UdpSrc = codes "udp_src"
field_name UdpDst = codes "udp_dst"
field_name Ipv6Src = codes "ipv6_src"
field_name Ipv6Dst = codes "ipv6_dst"

-- the fields, in field order
abbrev pub all_fields : List Field
all_fields = Switch ∷ Port ∷ EthType ∷ IpProto ∷ EthSrc ∷ EthDst ∷ Ipv4Src ∷ Ipv4Dst ∷ TcpSrc ∷ TcpDst ∷ UdpSrc ∷ UdpDst ∷ Ipv6Src ∷ Ipv6Dst ∷ []

-- the field with this name, where there is one
abbrev pub field_named : List ℕ → Option Field
field_named name = find (λ f. bytes_eq (field_name f) name) all_fields
