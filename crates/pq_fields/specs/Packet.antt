-- A packet as its fourteen numbers: the widths of its fields, which fields it has, and the order of packets.
use Rattle.std.specs.Prelude.{ℕ, ◌-◌, ◌/◌, ◌%◌, ◌^◌, ◌<◌, Bool, true, false, List, [], ◌∷◌, nat_lt, ◌==◌, ◌&&◌, ◌||◌}
use Rattle.pq_fields.specs.declared.field.Field.{Field}
use Rattle.pq_fields.specs.declared.field.Field.TheVariants.{Switch, Port, EthType, IpProto, EthSrc, EthDst, Ipv4Src, Ipv4Dst, TcpSrc}
use Rattle.pq_fields.specs.declared.field.Field.TheVariants.{TcpDst, UdpSrc, UdpDst, Ipv6Src, Ipv6Dst}
use Rattle.pq_fields.specs.declared.protocols.TheConstants.{IPV4, IPV6, TCP, UDP}

-- the numbers of a packet, in field order
pub record Numbers : Type 0 where
  pub switch : ℕ
  pub port : ℕ
  pub eth_type : ℕ
  pub ip_proto : ℕ
  pub eth_src : ℕ
  pub eth_dst : ℕ
  pub ipv4_src : ℕ
  pub ipv4_dst : ℕ
  pub tcp_src : ℕ
  pub tcp_dst : ℕ
  pub udp_src : ℕ
  pub udp_dst : ℕ
  pub ipv6_src : ℕ
  pub ipv6_dst : ℕ

-- each number fits the width of its field, so the numbers are a packet's
pub record Fit (x : Numbers) : Type 0 where
  pub switch : x.switch < 2 ^ 64
  pub port : x.port < 2 ^ 32
  pub eth_type : x.eth_type < 2 ^ 16
  pub ip_proto : x.ip_proto < 2 ^ 8
  pub eth_src : x.eth_src < 2 ^ 48
  pub eth_dst : x.eth_dst < 2 ^ 48
  pub ipv4_src : x.ipv4_src < 2 ^ 32
  pub ipv4_dst : x.ipv4_dst < 2 ^ 32
  pub tcp_src : x.tcp_src < 2 ^ 16
  pub tcp_dst : x.tcp_dst < 2 ^ 16
  pub udp_src : x.udp_src < 2 ^ 16
  pub udp_dst : x.udp_dst < 2 ^ 16
  pub ipv6_src : x.ipv6_src < 2 ^ 128
  pub ipv6_dst : x.ipv6_dst < 2 ^ 128

-- the width of a field in bits
abbrev pub width_of : Field → ℕ
width_of Switch = 64
width_of Port = 32
width_of EthType = 16
width_of IpProto = 8
width_of EthSrc = 48
width_of EthDst = 48
width_of Ipv4Src = 32
width_of Ipv4Dst = 32
width_of TcpSrc = 16
width_of TcpDst = 16
width_of UdpSrc = 16
width_of UdpDst = 16
width_of Ipv6Src = 128
width_of Ipv6Dst = 128

-- a field's place in field order
abbrev pub rank : Field → ℕ
rank Switch = 0
rank Port = 1
rank EthType = 2
rank IpProto = 3
rank EthSrc = 4
rank EthDst = 5
rank Ipv4Src = 6
rank Ipv4Dst = 7
rank TcpSrc = 8
rank TcpDst = 9
rank UdpSrc = 10
rank UdpDst = 11
rank Ipv6Src = 12
rank Ipv6Dst = 13

-- whether the field's numbers have 128 bits: an IPv6 address
abbrev pub is_wide : Field → Bool
is_wide f = nat_lt 11 (rank f)

-- the number that the packet has in a field
abbrev pub number_in : Field → Numbers → ℕ
number_in Switch x = x.switch
number_in Port x = x.port
number_in EthType x = x.eth_type
number_in IpProto x = x.ip_proto
number_in EthSrc x = x.eth_src
number_in EthDst x = x.eth_dst
number_in Ipv4Src x = x.ipv4_src
number_in Ipv4Dst x = x.ipv4_dst
number_in TcpSrc x = x.tcp_src
number_in TcpDst x = x.tcp_dst
number_in UdpSrc x = x.udp_src
number_in UdpDst x = x.udp_dst
number_in Ipv6Src x = x.ipv6_src
number_in Ipv6Dst x = x.ipv6_dst

-- the packet with another number in one field
abbrev pub with_number : Field → ℕ → Numbers → Numbers
with_number Switch n x = record x { switch = n }
with_number Port n x = record x { port = n }
with_number EthType n x = record x { eth_type = n }
with_number IpProto n x = record x { ip_proto = n }
with_number EthSrc n x = record x { eth_src = n }
with_number EthDst n x = record x { eth_dst = n }
with_number Ipv4Src n x = record x { ipv4_src = n }
with_number Ipv4Dst n x = record x { ipv4_dst = n }
with_number TcpSrc n x = record x { tcp_src = n }
with_number TcpDst n x = record x { tcp_dst = n }
with_number UdpSrc n x = record x { udp_src = n }
with_number UdpDst n x = record x { udp_dst = n }
with_number Ipv6Src n x = record x { ipv6_src = n }
with_number Ipv6Dst n x = record x { ipv6_dst = n }

-- the EtherTypes of IPv4 and IPv6
abbrev pub is_ipv4 : Numbers → Bool
is_ipv4 x = x.eth_type == IPV4

abbrev pub is_ipv6 : Numbers → Bool
is_ipv6 x = x.eth_type == IPV6

abbrev pub is_ip : Numbers → Bool
is_ip x = is_ipv4 x || is_ipv6 x

abbrev pub is_tcp : Numbers → Bool
is_tcp x = is_ip x && (x.ip_proto == TCP)

abbrev pub is_udp : Numbers → Bool
is_udp x = is_ip x && (x.ip_proto == UDP)

-- whether the packet has the field (the prerequisites of OpenFlow 1.3.5, section 7.2.3.6)
abbrev pub has_field : Field → Numbers → Bool
has_field Switch x = true
has_field Port x = true
has_field EthType x = true
has_field IpProto x = is_ip x
has_field EthSrc x = true
has_field EthDst x = true
has_field Ipv4Src x = is_ipv4 x
has_field Ipv4Dst x = is_ipv4 x
has_field TcpSrc x = is_tcp x
has_field TcpDst x = is_tcp x
has_field UdpSrc x = is_udp x
has_field UdpDst x = is_udp x
has_field Ipv6Src x = is_ipv6 x
has_field Ipv6Dst x = is_ipv6 x

-- the bit of a field's number at a place, 0 being the highest
abbrev pub bit_in : Field → ℕ → Numbers → Bool
bit_in f place x = number_in f x / 2 ^ (width_of f - 1 - place) % 2 == 1

-- the packet whose numbers are all 0
abbrev pub zero_packet : Numbers
zero_packet = record {
  switch = 0;
  port = 0;
  eth_type = 0;
  ip_proto = 0;
  eth_src = 0;
  eth_dst = 0;
  ipv4_src = 0;
  ipv4_dst = 0;
  tcp_src = 0;
  tcp_dst = 0;
  udp_src = 0;
  udp_dst = 0;
  ipv6_src = 0;
  ipv6_dst = 0;
}

-- a packet's numbers as a list, in field order
abbrev pub numbers : Numbers → List ℕ
numbers x = x.switch ∷ x.port ∷ x.eth_type ∷ x.ip_proto ∷ x.eth_src ∷ x.eth_dst ∷ x.ipv4_src ∷ x.ipv4_dst ∷ x.tcp_src ∷ x.tcp_dst ∷
    x.udp_src ∷ x.udp_dst ∷ x.ipv6_src ∷ x.ipv6_dst ∷ []

-- the order of lists of numbers: the first that differs decides, and a list is before each that it begins
abbrev pub is_before : List ℕ → List ℕ → Bool
is_before xs [] = false
is_before [] (y ∷ ys) = true
is_before (x ∷ xs) (y ∷ ys) = nat_lt x y || ((x == y) && is_before xs ys)
