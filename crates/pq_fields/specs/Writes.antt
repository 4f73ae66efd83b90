-- Numbers to write into the fields of a packet: what they make of it, what turns one packet into another, and their order.
use Rattle.std.specs.Prelude.{ℕ, suc, ◌^◌, ◌<◌, Bool, List, [], ◌∷◌, Option, None, Some, nat_lt, ◌==◌, ◌||◌, ◌&&◌, if◌then◌else◌}
use Rattle.std.specs.Option.{unwrap_or}
use Rattle.pq_fields.specs.declared.field.Field.{Field}
use Rattle.pq_fields.specs.declared.field.Field.TheVariants.{Switch, Port, EthType, IpProto, EthSrc, EthDst, Ipv4Src, Ipv4Dst, TcpSrc}
use Rattle.pq_fields.specs.declared.field.Field.TheVariants.{TcpDst, UdpSrc, UdpDst, Ipv6Src, Ipv6Dst}
use Rattle.pq_fields.specs.Packet.{Numbers, has_field, number_in, rank}

-- the number to write into each field that can be written, in field order; None where it stays
pub record Written : Type 0 where
  pub port : Option ℕ
  pub eth_src : Option ℕ
  pub eth_dst : Option ℕ
  pub ipv4_src : Option ℕ
  pub ipv4_dst : Option ℕ
  pub tcp_src : Option ℕ
  pub tcp_dst : Option ℕ
  pub udp_src : Option ℕ
  pub udp_dst : Option ℕ

-- the number to write, where there is one, is below 2 to this power
abbrev pub FitsWidth : ℕ → Option ℕ → Type 0
FitsWidth bits None = Unit {0}
FitsWidth bits (Some n) = n < 2 ^ bits

-- each number fits the width of its field
pub record AllFit (w : Written) : Type 0 where
  pub port : FitsWidth 32 w.port
  pub eth_src : FitsWidth 48 w.eth_src
  pub eth_dst : FitsWidth 48 w.eth_dst
  pub ipv4_src : FitsWidth 32 w.ipv4_src
  pub ipv4_dst : FitsWidth 32 w.ipv4_dst
  pub tcp_src : FitsWidth 16 w.tcp_src
  pub tcp_dst : FitsWidth 16 w.tcp_dst
  pub udp_src : FitsWidth 16 w.udp_src
  pub udp_dst : FitsWidth 16 w.udp_dst

-- the field can be written: the port, and the addresses and ports of Ethernet, IPv4, TCP and UDP
abbrev pub is_writable : Field → Bool
is_writable f = (rank f == 1) || (nat_lt 3 (rank f) && nat_lt (rank f) 12)

-- the number to write into a field, where there is one
abbrev pub written_in : Field → Written → Option ℕ
written_in Switch w = None
written_in Port w = w.port
written_in EthType w = None
written_in IpProto w = None
written_in EthSrc w = w.eth_src
written_in EthDst w = w.eth_dst
written_in Ipv4Src w = w.ipv4_src
written_in Ipv4Dst w = w.ipv4_dst
written_in TcpSrc w = w.tcp_src
written_in TcpDst w = w.tcp_dst
written_in UdpSrc w = w.udp_src
written_in UdpDst w = w.udp_dst
written_in Ipv6Src w = None
written_in Ipv6Dst w = None

-- nothing is written
abbrev pub no_writes : Written
no_writes = record {
  port = None;
  eth_src = None;
  eth_dst = None;
  ipv4_src = None;
  ipv4_dst = None;
  tcp_src = None;
  tcp_dst = None;
  udp_src = None;
  udp_dst = None;
}

-- a number for one field in place of the one that was to be written; of a field that can be written
abbrev pub with_write : Field → ℕ → Written → Written
with_write Switch n w = w
with_write Port n w = record w { port = Some n }
with_write EthType n w = w
with_write IpProto n w = w
with_write EthSrc n w = record w { eth_src = Some n }
with_write EthDst n w = record w { eth_dst = Some n }
with_write Ipv4Src n w = record w { ipv4_src = Some n }
with_write Ipv4Dst n w = record w { ipv4_dst = Some n }
with_write TcpSrc n w = record w { tcp_src = Some n }
with_write TcpDst n w = record w { tcp_dst = Some n }
with_write UdpSrc n w = record w { udp_src = Some n }
with_write UdpDst n w = record w { udp_dst = Some n }
with_write Ipv6Src n w = w
with_write Ipv6Dst n w = w

-- the number that the field has after the writes: the written one where the packet has the field
abbrev pub number_after : Field → Written → Numbers → ℕ
number_after f w x = if has_field f x then unwrap_or (written_in f w) (number_in f x) else number_in f x

-- the packet with each field that is written, and that it has, set to its number
abbrev pub on : Written → Numbers → Numbers
on w x =
    record x {
      port = number_after Port w x;
      eth_src = number_after EthSrc w x;
      eth_dst = number_after EthDst w x;
      ipv4_src =
          number_after Ipv4Src w x;
      ipv4_dst = number_after Ipv4Dst w x;
      tcp_src = number_after TcpSrc w x;
      tcp_dst =
          number_after TcpDst w x;
      udp_src = number_after UdpSrc w x;
      udp_dst = number_after UdpDst w x;
    }

-- the second packet's number where the two differ in the field
abbrev pub changed : Field → Numbers → Numbers → Option ℕ
changed f x y = if number_in f x == number_in f y then None else Some (number_in f y)

-- what turns the first packet into the second, where they differ only in fields that can be written: exactly the fields in which they differ
abbrev pub diff : Numbers → Numbers → Written
diff x y =
    record {
      port = changed Port x y;
      eth_src = changed EthSrc x y;
      eth_dst = changed EthDst x y;
      ipv4_src = changed Ipv4Src x y;
      ipv4_dst =
          changed Ipv4Dst x y;
      tcp_src = changed TcpSrc x y;
      tcp_dst = changed TcpDst x y;
      udp_src = changed UdpSrc x y;
      udp_dst =
          changed UdpDst x y;
    }

-- a number to write as a number: None is below all
abbrev pub place_of : Option ℕ → ℕ
place_of None = 0
place_of (Some n) = suc n

-- what is written as a list of numbers, in field order
abbrev pub places : Written → List ℕ
places w = place_of w.port ∷ place_of w.eth_src ∷ place_of w.eth_dst ∷ place_of w.ipv4_src ∷ place_of w.ipv4_dst ∷ place_of w.tcp_src ∷
    place_of w.tcp_dst ∷ place_of w.udp_src ∷ place_of w.udp_dst ∷ []
