-- The match of a flow entry as a value, its rules, and what it covers (OpenFlow 1.3.5, sections 7.2.3.6 to 7.2.3.8).
use Rattle.std.specs.Prelude.{◌≡◌, ℕ, ◌+◌, ◌^◌, ◌<◌, ◌≤◌, ◌⊎◌, Bool, true, false, IfSome, bit_and, ◌==◌, ◌&&◌}
use Rattle.std.specs.declared.option.Option.{Option}
use Rattle.std.specs.declared.option.Option.TheVariants.{None, Some}
use Rattle.pq_model.specs.Tagged.{TaggedPacket}
use Rattle.pq_model.specs.declared.reserved.TheConstants.{LAST_PORT}
use Rattle.pq_fields.specs.declared.protocols.TheConstants.{IPV4, IPV6, TCP, UDP}

pub record MatchFields : Type 0 where
  pub in_port : Option ℕ
  pub vlan : Option ℕ
  pub eth_type : Option ℕ
  pub ip_proto : Option ℕ
  pub eth_src : Option ℕ
  pub eth_dst : Option ℕ
  pub ipv4_src : Option (ℕ × ℕ)
  pub ipv4_dst : Option (ℕ × ℕ)
  pub tcp_src : Option ℕ
  pub tcp_dst : Option ℕ
  pub udp_src : Option ℕ
  pub udp_dst : Option ℕ
  pub ipv6_src : Option (ℕ × ℕ)
  pub ipv6_dst : Option (ℕ × ℕ)

-- the match that states no field
abbrev pub empty_match : MatchFields
empty_match = record {
  in_port = None;
  vlan = None;
  eth_type = None;
  ip_proto = None;
  eth_src = None;
  eth_dst = None;
  ipv4_src = None;
  ipv4_dst = None;
  tcp_src = None;
  tcp_dst = None;
  udp_src = None;
  udp_dst = None;
  ipv6_src = None;
  ipv6_dst = None;
}

-- the number of a port that a switch may have
abbrev pub IsPortNumber : ℕ → Type 0
IsPortNumber p = (1 ≤ p) × (p ≤ LAST_PORT)

-- 0x1000 and a VLAN number from 1 to 4094 together
abbrev pub IsTagWord : ℕ → Type 0
IsTagWord w = (0x1001 ≤ w) × (w ≤ 0x1ffe)

-- a value and a mask of this many bits; the mask has a one, and the value has none outside it
abbrev pub IsMasked : ℕ → ℕ × ℕ → Type 0
IsMasked bits a = (0 < a.1) × (a.1 < 2 ^ bits) × (bit_and a.0 a.1 ≡ a.0)

-- the numbers fit, and each field has its prerequisites
pub record IsLawfulMatch (m : MatchFields) : Type 0 where
  pub in_port : IfSome m.in_port IsPortNumber
  pub vlan : IfSome m.vlan (λ w. (w ≡ 0) ⊎ IsTagWord w)
  pub eth_type : IfSome m.eth_type (λ n. n < 2 ^ 16)
  pub ip_proto : IfSome m.ip_proto (λ n. (n < 2 ^ 8) × ((m.eth_type ≡ Some IPV4) ⊎ (m.eth_type ≡ Some IPV6)))
  pub eth_src : IfSome m.eth_src (λ n. n < 2 ^ 48)
  pub eth_dst : IfSome m.eth_dst (λ n. n < 2 ^ 48)
  pub ipv4_src : IfSome m.ipv4_src (λ a. IsMasked 32 a × (m.eth_type ≡ Some IPV4))
  pub ipv4_dst : IfSome m.ipv4_dst (λ a. IsMasked 32 a × (m.eth_type ≡ Some IPV4))
  pub tcp_src : IfSome m.tcp_src (λ n. (n < 2 ^ 16) × (m.ip_proto ≡ Some TCP))
  pub tcp_dst : IfSome m.tcp_dst (λ n. (n < 2 ^ 16) × (m.ip_proto ≡ Some TCP))
  pub udp_src : IfSome m.udp_src (λ n. (n < 2 ^ 16) × (m.ip_proto ≡ Some UDP))
  pub udp_dst : IfSome m.udp_dst (λ n. (n < 2 ^ 16) × (m.ip_proto ≡ Some UDP))
  pub ipv6_src : IfSome m.ipv6_src (λ a. IsMasked 128 a × (m.eth_type ≡ Some IPV6))
  pub ipv6_dst : IfSome m.ipv6_dst (λ a. IsMasked 128 a × (m.eth_type ≡ Some IPV6))

-- the VLAN_VID word of a packet: 0 without a header
abbrev pub vlan_word : Option ℕ → ℕ
vlan_word None = 0
vlan_word (Some t) = 0x1000 + t

-- a field that is not stated agrees with every number
abbrev pub agrees : Option ℕ → ℕ → Bool
agrees None n = true
agrees (Some v) n = n == v

abbrev pub agrees_masked : Option (ℕ × ℕ) → ℕ → Bool
agrees_masked None n = true
agrees_masked (Some a) n = bit_and n a.1 == a.0

-- each stated field agrees with the packet; by the prerequisites the packet then has each stated field
unfoldable pub covers : MatchFields → TaggedPacket → Bool
covers m x =
    agrees m.in_port x.packet.port && agrees m.vlan (vlan_word x.vlan)
    && agrees m.eth_type x.packet.eth_type && agrees m.ip_proto x.packet.ip_proto
    && agrees m.eth_src x.packet.eth_src && agrees m.eth_dst x.packet.eth_dst
    && agrees_masked m.ipv4_src x.packet.ipv4_src && agrees_masked m.ipv4_dst x.packet.ipv4_dst
    && agrees m.tcp_src x.packet.tcp_src && agrees m.tcp_dst x.packet.tcp_dst
    && agrees m.udp_src x.packet.udp_src && agrees m.udp_dst x.packet.udp_dst
    && agrees_masked m.ipv6_src x.packet.ipv6_src && agrees_masked m.ipv6_dst x.packet.ipv6_dst

abbrev pub same_number : Option ℕ → Option ℕ → Bool
same_number None None = true
same_number None (Some n) = false
same_number (Some m) None = false
same_number (Some m) (Some n) = m == n

abbrev pub same_masked : Option (ℕ × ℕ) → Option (ℕ × ℕ) → Bool
same_masked None None = true
same_masked None (Some b) = false
same_masked (Some a) None = false
same_masked (Some a) (Some b) = (a.0 == b.0) && (a.1 == b.1)

-- whether two matches state the same fields with the same numbers
unfoldable pub same_match : MatchFields → MatchFields → Bool
same_match m n =
    same_number m.in_port n.in_port && same_number m.vlan n.vlan
    && same_number m.eth_type n.eth_type && same_number m.ip_proto n.ip_proto
    && same_number m.eth_src n.eth_src && same_number m.eth_dst n.eth_dst
    && same_masked m.ipv4_src n.ipv4_src && same_masked m.ipv4_dst n.ipv4_dst
    && same_number m.tcp_src n.tcp_src && same_number m.tcp_dst n.tcp_dst
    && same_number m.udp_src n.udp_src && same_number m.udp_dst n.udp_dst
    && same_masked m.ipv6_src n.ipv6_src && same_masked m.ipv6_dst n.ipv6_dst
