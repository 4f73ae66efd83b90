-- Each number of a packet fits its field.
use Rattle.std.specs.Prelude.{◌^◌, ◌<◌}
use Rattle.pq_fields.specs.declared.field.Field.{Field}
use Rattle.pq_fields.specs.declared.field.Field.TheVariants.{Switch, Port, EthType, IpProto, EthSrc, EthDst, Ipv4Src, Ipv4Dst, TcpSrc}
use Rattle.pq_fields.specs.declared.field.Field.TheVariants.{TcpDst, UdpSrc, UdpDst, Ipv6Src, Ipv6Dst}
use Rattle.pq_fields.specs.Packet.{Numbers, Fit, number_in, width_of}

pub number_fits : (f : Field) (x : Numbers) → Fit x → number_in f x < 2 ^ width_of f
number_fits Switch x fit = fit.switch
number_fits Port x fit = fit.port
number_fits EthType x fit = fit.eth_type
number_fits IpProto x fit = fit.ip_proto
number_fits EthSrc x fit = fit.eth_src
number_fits EthDst x fit = fit.eth_dst
number_fits Ipv4Src x fit = fit.ipv4_src
number_fits Ipv4Dst x fit = fit.ipv4_dst
number_fits TcpSrc x fit = fit.tcp_src
number_fits TcpDst x fit = fit.tcp_dst
number_fits UdpSrc x fit = fit.udp_src
number_fits UdpDst x fit = fit.udp_dst
number_fits Ipv6Src x fit = fit.ipv6_src
number_fits Ipv6Dst x fit = fit.ipv6_dst
