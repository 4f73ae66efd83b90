-- Each point in range is a packet, for the tests of diagrams.
use Rattle.std.proofs.Common.{ℕ, ◌-◌, ◌/◌, ◌%◌, ◌^◌, ◌<◌, ◌≡◌, ◌∙◌, Bool, true, false, refl, ap}
use Rattle.std.specs.Prelude.{◌==◌, if◌then◌else◌}
use Rattle.pq_fields.specs.declared.field.Field.{Field}
use Rattle.pq_fields.specs.declared.field.Field.TheVariants.{Switch, Port, EthType, IpProto, EthSrc, EthDst, Ipv4Src, Ipv4Dst, TcpSrc}
use Rattle.pq_fields.specs.declared.field.Field.TheVariants.{TcpDst, UdpSrc, UdpDst, Ipv6Src, Ipv6Dst}
use Rattle.pq_fields.specs.Packet.{Numbers, Fit, number_in, width_of}
use Rattle.pq_store.specs.declared.test.Test.{Test}
use Rattle.pq_store.specs.declared.test.Test.TheVariants.{Equal, Bit}
use Rattle.pq_store.specs.Test.{is_address, passes, IsLawful}
use Rattle.pq_store.specs.Tree.{Tree, value}
use Rattle.pq_store.specs.Tree.Tree.{Tip, Fork}
use Rattle.pq_store.specs.Diagram.{AllLawful}
use Rattle.pq_store.proofs.Point.{Point, answer, leaf_at, InRange}
use Rattle.pq_store.proofs.Bits.{joined, joined_below, joined_bit}

-- a field's number at a point: that of its bits for an address
number_at : Point → Field → ℕ
number_at p f = if is_address f then joined (p.bit f) (width_of f) else p.number f

-- it fits the width of the field
number_fits : (p : Point) → InRange p → (f : Field) → number_at p f < 2 ^ width_of f
unfolding number_at
number_fits p within f = by (is_address f) refl
  where
    by : (b : Bool) → is_address f ≡ b → (if b then joined (p.bit f) (width_of f) else p.number f) < 2 ^ width_of f
    by true h = joined_below (p.bit f) (width_of f)
    by false h = within f h

-- the packet of a point
pub packet_of : Point → Numbers
packet_of p = record {
  switch = number_at p Switch;
  port = number_at p Port;
  eth_type = number_at p EthType;
  ip_proto = number_at p IpProto;
  eth_src = number_at p EthSrc;
  eth_dst = number_at p EthDst;
  ipv4_src = number_at p Ipv4Src;
  ipv4_dst = number_at p Ipv4Dst;
  tcp_src = number_at p TcpSrc;
  tcp_dst = number_at p TcpDst;
  udp_src = number_at p UdpSrc;
  udp_dst = number_at p UdpDst;
  ipv6_src = number_at p Ipv6Src;
  ipv6_dst = number_at p Ipv6Dst;
}

-- the packet has the numbers of its point
number_of_packet : (f : Field) (p : Point) → number_in f (packet_of p) ≡ number_at p f
unfolding packet_of
number_of_packet Switch p = refl
number_of_packet Port p = refl
number_of_packet EthType p = refl
number_of_packet IpProto p = refl
number_of_packet EthSrc p = refl
number_of_packet EthDst p = refl
number_of_packet Ipv4Src p = refl
number_of_packet Ipv4Dst p = refl
number_of_packet TcpSrc p = refl
number_of_packet TcpDst p = refl
number_of_packet UdpSrc p = refl
number_of_packet UdpDst p = refl
number_of_packet Ipv6Src p = refl
number_of_packet Ipv6Dst p = refl

-- the number itself, of a field that is not an address
pub whole_number_of_packet : (f : Field) (p : Point) → is_address f ≡ false → number_in f (packet_of p) ≡ p.number f
unfolding number_at
whole_number_of_packet f p whole = number_of_packet f p ∙ ap (λ b. if b then joined (p.bit f) (width_of f) else p.number f) whole

-- the packet of a point in range fits the widths of the fields
pub packet_fits : (p : Point) → InRange p → Fit (packet_of p)
unfolding packet_of
packet_fits p within = record {
  switch = number_fits p within Switch;
  port = number_fits p within Port;
  eth_type = number_fits p within EthType;
  ip_proto = number_fits p within IpProto;
  eth_src = number_fits p within EthSrc;
  eth_dst = number_fits p within EthDst;
  ipv4_src = number_fits p within Ipv4Src;
  ipv4_dst = number_fits p within Ipv4Dst;
  tcp_src = number_fits p within TcpSrc;
  tcp_dst = number_fits p within TcpDst;
  udp_src = number_fits p within UdpSrc;
  udp_dst = number_fits p within UdpDst;
  ipv6_src = number_fits p within Ipv6Src;
  ipv6_dst = number_fits p within Ipv6Dst;
}

-- the packet passes the lawful tests to which the point answers yes
pub passes_packet_of : (s : Test) → IsLawful s → (p : Point) → passes s (packet_of p) ≡ answer s p
unfolding number_at
passes_packet_of (Equal f v) lawful p =
    ap (λ n. n == v) (whole_number_of_packet f p lawful.0)
passes_packet_of (Bit f i) lawful p =
    ap (λ n. n / 2 ^ (width_of f - 1 - i) % 2 == 1)
    (number_of_packet f p ∙ ap (λ b. if b then joined (p.bit f) (width_of f) else p.number f) lawful.0)
    ∙ joined_bit (p.bit f) (width_of f) i lawful.1

-- the packet reaches the leaf that the point reaches
pub value_packet_of : {L : Type 0} (t : Tree L) → AllLawful t → (p : Point) → value t (packet_of p) ≡ leaf_at t p
value_packet_of (Tip l) lawful p = refl
value_packet_of (Fork s y n) lawful p =
    rw (passes_packet_of s lawful.0 p, value_packet_of y lawful.1 p, value_packet_of n lawful.2 p) refl
