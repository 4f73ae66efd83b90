-- Packets with another number in a field that they lack.
use Rattle.std.proofs.Common.{ℕ, ◌<◌, ◌^◌, ◌≡◌, ◌∙◌, Bool, true, false, ◌==◌, ◌&&◌, if◌then◌else◌, refl, sym, ap}
use Rattle.std.specs.Option.{unwrap_or}
use Rattle.pq_fields.specs.declared.field.Field.{Field}
use Rattle.pq_fields.specs.declared.field.Field.TheVariants.{Switch, Port, EthType, IpProto, EthSrc, EthDst, Ipv4Src, Ipv4Dst, TcpSrc}
use Rattle.pq_fields.specs.declared.field.Field.TheVariants.{TcpDst, UdpSrc, UdpDst, Ipv6Src, Ipv6Dst}
use Rattle.pq_fields.specs.Packet.{Fit, Numbers, has_field, is_ipv4, is_tcp, is_udp, width_of, with_number, zero_packet}
use Rattle.pq_fields.specs.Writes.{Written, on}
use Rattle.pq_layout.specs.Leaves.{at_switch}

-- which fields a packet has is told by its EtherType and its IP protocol
told : (g : Field) (x : Numbers) → has_field g x ≡ has_field g (record zero_packet { eth_type = x.eth_type; ip_proto = x.ip_proto })
told Switch x = refl
told Port x = refl
told EthType x = refl
told IpProto x = refl
told EthSrc x = refl
told EthDst x = refl
told Ipv4Src x = refl
told Ipv4Dst x = refl
told TcpSrc x = refl
told TcpDst x = refl
told UdpSrc x = refl
told UdpDst x = refl
told Ipv6Src x = refl
told Ipv6Dst x = refl

-- a packet that is not of IP lacks TCP and UDP whatever the protocol
other_protocol : (b c d : Bool) → b ≡ false → (b && c) ≡ (b && d)
other_protocol true c d none = absurd cc
other_protocol false c d none = refl

-- a protocol that the packet lacks changes no presence
protocol_presence : (g : Field) (n : ℕ) (x : Numbers) → has_field IpProto x ≡ false → has_field g (record x { ip_proto = n }) ≡ has_field g x
protocol_presence Switch n x lacks = refl
protocol_presence Port n x lacks = refl
protocol_presence EthType n x lacks = refl
protocol_presence IpProto n x lacks = refl
protocol_presence EthSrc n x lacks = refl
protocol_presence EthDst n x lacks = refl
protocol_presence Ipv4Src n x lacks = refl
protocol_presence Ipv4Dst n x lacks = refl
protocol_presence TcpSrc n x lacks = other_protocol (has_field IpProto x) (n == 6) (x.ip_proto == 6) lacks
protocol_presence TcpDst n x lacks = other_protocol (has_field IpProto x) (n == 6) (x.ip_proto == 6) lacks
protocol_presence UdpSrc n x lacks = other_protocol (has_field IpProto x) (n == 17) (x.ip_proto == 17) lacks
protocol_presence UdpDst n x lacks = other_protocol (has_field IpProto x) (n == 17) (x.ip_proto == 17) lacks
protocol_presence Ipv6Src n x lacks = refl
protocol_presence Ipv6Dst n x lacks = refl

-- where the packet lacks the field, its number stays
stays_lacking : (b : Bool) (m n : ℕ) → b ≡ false → (if b then m else n) ≡ n
stays_lacking b m n lacks = ap (λ c. if c then m else n) lacks

-- writes go past a field that the packet lacks
pub on_lacking : (f : Field) (n : ℕ) (w : Written) (x : Numbers) → has_field f x ≡ false → on w (with_number f n x) ≡ with_number f n (on w x)
on_lacking Switch n w x lacks = absurd cc
on_lacking Port n w x lacks = absurd cc
on_lacking EthType n w x lacks = absurd cc
on_lacking IpProto n w x lacks = λ i. record (with_number IpProto n (on w x)) {
  tcp_src = if protocol_presence TcpSrc n x lacks i then unwrap_or w.tcp_src x.tcp_src else x.tcp_src;
  tcp_dst = if protocol_presence TcpDst n x lacks i then unwrap_or w.tcp_dst x.tcp_dst else x.tcp_dst;
  udp_src = if protocol_presence UdpSrc n x lacks i then unwrap_or w.udp_src x.udp_src else x.udp_src;
  udp_dst = if protocol_presence UdpDst n x lacks i then unwrap_or w.udp_dst x.udp_dst else x.udp_dst;
}
on_lacking EthSrc n w x lacks = absurd cc
on_lacking EthDst n w x lacks = absurd cc
on_lacking Ipv4Src n w x lacks = λ i. record (with_number Ipv4Src n (on w x)) { ipv4_src = stays_lacking (is_ipv4 x) (unwrap_or w.ipv4_src n) n lacks i }
on_lacking Ipv4Dst n w x lacks = λ i. record (with_number Ipv4Dst n (on w x)) { ipv4_dst = stays_lacking (is_ipv4 x) (unwrap_or w.ipv4_dst n) n lacks i }
on_lacking TcpSrc n w x lacks = λ i. record (with_number TcpSrc n (on w x)) { tcp_src = stays_lacking (is_tcp x) (unwrap_or w.tcp_src n) n lacks i }
on_lacking TcpDst n w x lacks = λ i. record (with_number TcpDst n (on w x)) { tcp_dst = stays_lacking (is_tcp x) (unwrap_or w.tcp_dst n) n lacks i }
on_lacking UdpSrc n w x lacks = λ i. record (with_number UdpSrc n (on w x)) { udp_src = stays_lacking (is_udp x) (unwrap_or w.udp_src n) n lacks i }
on_lacking UdpDst n w x lacks = λ i. record (with_number UdpDst n (on w x)) { udp_dst = stays_lacking (is_udp x) (unwrap_or w.udp_dst n) n lacks i }
on_lacking Ipv6Src n w x lacks = refl
on_lacking Ipv6Dst n w x lacks = refl

-- what is said of a field that a packet lacks, at a switch and at port 0
pub record IsApart (f : Field) : Type 0 where
  pub at_switch : (d n : ℕ) (x : Numbers) → at_switch d (with_number f n x) ≡ with_number f n (at_switch d x)
  pub at_zero : (n : ℕ) (x : Numbers) → record (with_number f n x) { port = 0 } ≡ with_number f n (record x { port = 0 })
  pub switch : (n : ℕ) (x : Numbers) → (with_number f n x).switch ≡ x.switch
  pub port : (n : ℕ) (x : Numbers) → (with_number f n x).port ≡ x.port
  pub fit : (n : ℕ) (x : Numbers) → n < 2 ^ width_of f → Fit x → Fit (with_number f n x)

-- the presence of a field at a switch and at port 0 is that of the packet
pub has_at_switch : (f : Field) (d : ℕ) (x : Numbers) → has_field f (at_switch d x) ≡ has_field f x
has_at_switch f d x = told f (at_switch d x) ∙ sym (told f x)

pub has_at_zero : (f : Field) (x : Numbers) → has_field f (record x { port = 0 }) ≡ has_field f x
has_at_zero f x = told f (record x { port = 0 }) ∙ sym (told f x)

-- a field that a packet lacks is apart from its switch and port
pub apart : (f : Field) (x : Numbers) → has_field f x ≡ false → IsApart f
apart Switch x lacks = absurd cc
apart Port x lacks = absurd cc
apart EthType x lacks = absurd cc
apart IpProto x lacks = record {
  at_switch = λ d n y. refl;
  at_zero = λ n y. refl;
  switch = λ n y. refl;
  port = λ n y. refl;
  fit = λ n y below fit. record {
    switch = fit.switch;
    port = fit.port;
    eth_type = fit.eth_type;
    ip_proto = below;
    eth_src = fit.eth_src;
    eth_dst = fit.eth_dst;
    ipv4_src = fit.ipv4_src;
    ipv4_dst = fit.ipv4_dst;
    tcp_src = fit.tcp_src;
    tcp_dst = fit.tcp_dst;
    udp_src = fit.udp_src;
    udp_dst = fit.udp_dst;
    ipv6_src = fit.ipv6_src;
    ipv6_dst = fit.ipv6_dst;
  };
}
apart EthSrc x lacks = absurd cc
apart EthDst x lacks = absurd cc
apart Ipv4Src x lacks = record {
  at_switch = λ d n y. refl;
  at_zero = λ n y. refl;
  switch = λ n y. refl;
  port = λ n y. refl;
  fit = λ n y below fit. record {
    switch = fit.switch;
    port = fit.port;
    eth_type = fit.eth_type;
    ip_proto = fit.ip_proto;
    eth_src = fit.eth_src;
    eth_dst = fit.eth_dst;
    ipv4_src = below;
    ipv4_dst = fit.ipv4_dst;
    tcp_src = fit.tcp_src;
    tcp_dst = fit.tcp_dst;
    udp_src = fit.udp_src;
    udp_dst = fit.udp_dst;
    ipv6_src = fit.ipv6_src;
    ipv6_dst = fit.ipv6_dst;
  };
}
apart Ipv4Dst x lacks = record {
  at_switch = λ d n y. refl;
  at_zero = λ n y. refl;
  switch = λ n y. refl;
  port = λ n y. refl;
  fit = λ n y below fit. record {
    switch = fit.switch;
    port = fit.port;
    eth_type = fit.eth_type;
    ip_proto = fit.ip_proto;
    eth_src = fit.eth_src;
    eth_dst = fit.eth_dst;
    ipv4_src = fit.ipv4_src;
    ipv4_dst = below;
    tcp_src = fit.tcp_src;
    tcp_dst = fit.tcp_dst;
    udp_src = fit.udp_src;
    udp_dst = fit.udp_dst;
    ipv6_src = fit.ipv6_src;
    ipv6_dst = fit.ipv6_dst;
  };
}
apart TcpSrc x lacks = record {
  at_switch = λ d n y. refl;
  at_zero = λ n y. refl;
  switch = λ n y. refl;
  port = λ n y. refl;
  fit = λ n y below fit. record {
    switch = fit.switch;
    port = fit.port;
    eth_type = fit.eth_type;
    ip_proto = fit.ip_proto;
    eth_src = fit.eth_src;
    eth_dst = fit.eth_dst;
    ipv4_src = fit.ipv4_src;
    ipv4_dst = fit.ipv4_dst;
    tcp_src = below;
    tcp_dst = fit.tcp_dst;
    udp_src = fit.udp_src;
    udp_dst = fit.udp_dst;
    ipv6_src = fit.ipv6_src;
    ipv6_dst = fit.ipv6_dst;
  };
}
apart TcpDst x lacks = record {
  at_switch = λ d n y. refl;
  at_zero = λ n y. refl;
  switch = λ n y. refl;
  port = λ n y. refl;
  fit = λ n y below fit. record {
    switch = fit.switch;
    port = fit.port;
    eth_type = fit.eth_type;
    ip_proto = fit.ip_proto;
    eth_src = fit.eth_src;
    eth_dst = fit.eth_dst;
    ipv4_src = fit.ipv4_src;
    ipv4_dst = fit.ipv4_dst;
    tcp_src = fit.tcp_src;
    tcp_dst = below;
    udp_src = fit.udp_src;
    udp_dst = fit.udp_dst;
    ipv6_src = fit.ipv6_src;
    ipv6_dst = fit.ipv6_dst;
  };
}
apart UdpSrc x lacks = record {
  at_switch = λ d n y. refl;
  at_zero = λ n y. refl;
  switch = λ n y. refl;
  port = λ n y. refl;
  fit = λ n y below fit. record {
    switch = fit.switch;
    port = fit.port;
    eth_type = fit.eth_type;
    ip_proto = fit.ip_proto;
    eth_src = fit.eth_src;
    eth_dst = fit.eth_dst;
    ipv4_src = fit.ipv4_src;
    ipv4_dst = fit.ipv4_dst;
    tcp_src = fit.tcp_src;
    tcp_dst = fit.tcp_dst;
    udp_src = below;
    udp_dst = fit.udp_dst;
    ipv6_src = fit.ipv6_src;
    ipv6_dst = fit.ipv6_dst;
  };
}
apart UdpDst x lacks = record {
  at_switch = λ d n y. refl;
  at_zero = λ n y. refl;
  switch = λ n y. refl;
  port = λ n y. refl;
  fit = λ n y below fit. record {
    switch = fit.switch;
    port = fit.port;
    eth_type = fit.eth_type;
    ip_proto = fit.ip_proto;
    eth_src = fit.eth_src;
    eth_dst = fit.eth_dst;
    ipv4_src = fit.ipv4_src;
    ipv4_dst = fit.ipv4_dst;
    tcp_src = fit.tcp_src;
    tcp_dst = fit.tcp_dst;
    udp_src = fit.udp_src;
    udp_dst = below;
    ipv6_src = fit.ipv6_src;
    ipv6_dst = fit.ipv6_dst;
  };
}
apart Ipv6Src x lacks = record {
  at_switch = λ d n y. refl;
  at_zero = λ n y. refl;
  switch = λ n y. refl;
  port = λ n y. refl;
  fit = λ n y below fit. record {
    switch = fit.switch;
    port = fit.port;
    eth_type = fit.eth_type;
    ip_proto = fit.ip_proto;
    eth_src = fit.eth_src;
    eth_dst = fit.eth_dst;
    ipv4_src = fit.ipv4_src;
    ipv4_dst = fit.ipv4_dst;
    tcp_src = fit.tcp_src;
    tcp_dst = fit.tcp_dst;
    udp_src = fit.udp_src;
    udp_dst = fit.udp_dst;
    ipv6_src = below;
    ipv6_dst = fit.ipv6_dst;
  };
}
apart Ipv6Dst x lacks = record {
  at_switch = λ d n y. refl;
  at_zero = λ n y. refl;
  switch = λ n y. refl;
  port = λ n y. refl;
  fit = λ n y below fit. record {
    switch = fit.switch;
    port = fit.port;
    eth_type = fit.eth_type;
    ip_proto = fit.ip_proto;
    eth_src = fit.eth_src;
    eth_dst = fit.eth_dst;
    ipv4_src = fit.ipv4_src;
    ipv4_dst = fit.ipv4_dst;
    tcp_src = fit.tcp_src;
    tcp_dst = fit.tcp_dst;
    udp_src = fit.udp_src;
    udp_dst = fit.udp_dst;
    ipv6_src = fit.ipv6_src;
    ipv6_dst = below;
  };
}
