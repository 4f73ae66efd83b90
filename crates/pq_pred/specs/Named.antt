-- Which numbers may stand for a field in a document about a network.
use Rattle.std.specs.Prelude.{◌≡◌, ℕ}
use Rattle.std.specs.List.{Any}
use Rattle.pq_fields.specs.declared.field.Field.{Field}
use Rattle.pq_fields.specs.declared.field.Field.TheVariants.{Switch, Port, EthType, IpProto, EthSrc, EthDst, Ipv4Src, Ipv4Dst, TcpSrc}
use Rattle.pq_fields.specs.declared.field.Field.TheVariants.{TcpDst, UdpSrc, UdpDst, Ipv6Src, Ipv6Dst}
use Rattle.pq_model.specs.MatchFields.{IsPortNumber}
use Rattle.pq_model.specs.Topology.{Topology}

-- for `switch` the datapath numbers of the network, for `port` those from 1 to 0xffffff00, and for all other fields any number
abbrev pub MayStand : Topology → Field → ℕ → Type 0
MayStand T Switch n = Any (λ s. s.datapath ≡ n) T.switches
MayStand T Port n = IsPortNumber n
MayStand T EthType n = Unit {0}
MayStand T IpProto n = Unit {0}
MayStand T EthSrc n = Unit {0}
MayStand T EthDst n = Unit {0}
MayStand T Ipv4Src n = Unit {0}
MayStand T Ipv4Dst n = Unit {0}
MayStand T TcpSrc n = Unit {0}
MayStand T TcpDst n = Unit {0}
MayStand T UdpSrc n = Unit {0}
MayStand T UdpDst n = Unit {0}
MayStand T Ipv6Src n = Unit {0}
MayStand T Ipv6Dst n = Unit {0}
