-- What is written into each field.
use Rattle.std.proofs.Common.{ℕ, ◌≡◌, ◌∙◌, true, Option, Some, ◌==◌, if◌then◌else◌, refl, sym, ap}
use Rattle.std.proofs.lemmas.Bool.{true≢false}
use Rattle.pq_fields.specs.declared.field.Field.{Field}
use Rattle.pq_fields.specs.declared.field.Field.TheVariants.{Switch, Port, EthType, IpProto, EthSrc, EthDst, Ipv4Src, Ipv4Dst, TcpSrc}
use Rattle.pq_fields.specs.declared.field.Field.TheVariants.{TcpDst, UdpSrc, UdpDst, Ipv6Src, Ipv6Dst}
use Rattle.pq_fields.specs.Packet.{rank}
use Rattle.pq_fields.specs.Writes.{Written, is_writable, with_write, written_in}

-- only fields that can be written are
pub written_writable : (f : Field) (w : Written) (n : ℕ) → written_in f w ≡ Some n → is_writable f ≡ true
written_writable Switch w n is = absurd cc
written_writable Port w n is = refl
written_writable EthType w n is = absurd cc
written_writable IpProto w n is = absurd cc
written_writable EthSrc w n is = refl
written_writable EthDst w n is = refl
written_writable Ipv4Src w n is = refl
written_writable Ipv4Dst w n is = refl
written_writable TcpSrc w n is = refl
written_writable TcpDst w n is = refl
written_writable UdpSrc w n is = refl
written_writable UdpDst w n is = refl
written_writable Ipv6Src w n is = absurd cc
written_writable Ipv6Dst w n is = absurd cc

-- writes of the same numbers into the fields that can be written are the same
pub same_written : (v w : Written) → ((f : Field) → is_writable f ≡ true → written_in f v ≡ written_in f w) → v ≡ w
same_written v w same = λ i. record {
  port = same Port refl i;
  eth_src = same EthSrc refl i;
  eth_dst = same EthDst refl i;
  ipv4_src = same Ipv4Src refl i;
  ipv4_dst = same Ipv4Dst refl i;
  tcp_src = same TcpSrc refl i;
  tcp_dst = same TcpDst refl i;
  udp_src = same UdpSrc refl i;
  udp_dst = same UdpDst refl i;
}

-- the number for the field of this rank, or what was to be written
abbrev written_at : Field → ℕ → ℕ → Option ℕ → Option ℕ
written_at f n place o = if rank f == place then Some n else o

-- a number for one field, field by field
abbrev with_number_at : Field → ℕ → Written → Written
with_number_at f n w = record {
  port = written_at f n 1 w.port;
  eth_src = written_at f n 4 w.eth_src;
  eth_dst = written_at f n 5 w.eth_dst;
  ipv4_src = written_at f n 6 w.ipv4_src;
  ipv4_dst = written_at f n 7 w.ipv4_dst;
  tcp_src = written_at f n 8 w.tcp_src;
  tcp_dst = written_at f n 9 w.tcp_dst;
  udp_src = written_at f n 10 w.udp_src;
  udp_dst = written_at f n 11 w.udp_dst;
}

-- it is the one that contracts name
with_write_is : (f : Field) (n : ℕ) (w : Written) → with_write f n w ≡ with_number_at f n w
with_write_is Switch n w = refl
with_write_is Port n w = refl
with_write_is EthType n w = refl
with_write_is IpProto n w = refl
with_write_is EthSrc n w = refl
with_write_is EthDst n w = refl
with_write_is Ipv4Src n w = refl
with_write_is Ipv4Dst n w = refl
with_write_is TcpSrc n w = refl
with_write_is TcpDst n w = refl
with_write_is UdpSrc n w = refl
with_write_is UdpDst n w = refl
with_write_is Ipv6Src n w = refl
with_write_is Ipv6Dst n w = refl

-- the number that it has in each field
at_field : (f g : Field) (n : ℕ) (w : Written) → is_writable g ≡ true → written_in g (with_number_at f n w) ≡ written_at f n (rank g) (written_in g w)
at_field f Switch n w writable = absurd (true≢false (sym writable))
at_field f Port n w writable = refl
at_field f EthType n w writable = absurd (true≢false (sym writable))
at_field f IpProto n w writable = absurd (true≢false (sym writable))
at_field f EthSrc n w writable = refl
at_field f EthDst n w writable = refl
at_field f Ipv4Src n w writable = refl
at_field f Ipv4Dst n w writable = refl
at_field f TcpSrc n w writable = refl
at_field f TcpDst n w writable = refl
at_field f UdpSrc n w writable = refl
at_field f UdpDst n w writable = refl
at_field f Ipv6Src n w writable = absurd (true≢false (sym writable))
at_field f Ipv6Dst n w writable = absurd (true≢false (sym writable))

-- a number for one field is there, and elsewhere what was to be written
pub written_with : (f g : Field) (n : ℕ) (w : Written) → is_writable g ≡ true
    → written_in g (with_write f n w) ≡ (if rank f == rank g then Some n else written_in g w)
written_with f g n w writable = ap (written_in g) (with_write_is f n w) ∙ at_field f g n w writable
