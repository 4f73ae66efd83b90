-- What matches state, and with which masks.
use Rattle.std.specs.Prelude.{ℕ, bit_and}
use Rattle.std.specs.declared.option.Option.{Option}
use Rattle.std.specs.declared.option.Option.TheVariants.{None, Some}
use Rattle.pq_model.specs.MatchFields.{MatchFields, empty_match, vlan_word}
use Rattle.pq_model.specs.Tagged.{TaggedPacket}
use Rattle.pq_switch.specs.declared.pattern.Pattern.{Pattern}

-- what a match states
abbrev pub pattern_of : MatchFields → Pattern
pattern_of m =
    record {
      in_port = m.in_port;
      vlan = m.vlan;
      eth_type = m.eth_type;
      ip_proto = m.ip_proto;
      eth_src = m.eth_src;
      eth_dst =
          m.eth_dst;
      ipv4_src = m.ipv4_src;
      ipv4_dst = m.ipv4_dst;
      tcp_src = m.tcp_src;
      tcp_dst = m.tcp_dst;
      udp_src = m.udp_src;
      udp_dst =
          m.udp_dst;
      ipv6_src = m.ipv6_src;
      ipv6_dst = m.ipv6_dst;
    }

abbrev pub no_pattern : Pattern
no_pattern = pattern_of empty_match

-- a number in the place of a stated one
abbrev pub seen : Option ℕ → ℕ → Option ℕ
seen None n = None
seen (Some v) n = Some n

-- what a number has under the mask of a stated one
abbrev pub seen_masked : Option (ℕ × ℕ) → ℕ → Option (ℕ × ℕ)
seen_masked None n = None
seen_masked (Some a) n = Some (bit_and n a.1, a.1)

-- the mask alone
abbrev pub mask_of : Option (ℕ × ℕ) → Option (ℕ × ℕ)
mask_of None = None
mask_of (Some a) = Some (0, a.1)

-- the same fields and masks with the packet's numbers; a match covers the packet exactly where this is what it states
abbrev pub projected : Pattern → TaggedPacket → Pattern
projected p x = record {
  in_port = seen p.in_port x.packet.port;
  vlan = seen p.vlan (vlan_word x.vlan);
  eth_type = seen p.eth_type x.packet.eth_type;
  ip_proto = seen p.ip_proto x.packet.ip_proto;
  eth_src = seen p.eth_src x.packet.eth_src;
  eth_dst = seen p.eth_dst x.packet.eth_dst;
  ipv4_src = seen_masked p.ipv4_src x.packet.ipv4_src;
  ipv4_dst = seen_masked p.ipv4_dst x.packet.ipv4_dst;
  tcp_src = seen p.tcp_src x.packet.tcp_src;
  tcp_dst = seen p.tcp_dst x.packet.tcp_dst;
  udp_src = seen p.udp_src x.packet.udp_src;
  udp_dst = seen p.udp_dst x.packet.udp_dst;
  ipv6_src = seen_masked p.ipv6_src x.packet.ipv6_src;
  ipv6_dst = seen_masked p.ipv6_dst x.packet.ipv6_dst;
}

-- the shape of a pattern: which fields it states, and with which masks
abbrev pub shape_of : Pattern → Pattern
shape_of p = record {
  in_port = seen p.in_port 0;
  vlan = seen p.vlan 0;
  eth_type = seen p.eth_type 0;
  ip_proto = seen p.ip_proto 0;
  eth_src = seen p.eth_src 0;
  eth_dst = seen p.eth_dst 0;
  ipv4_src = mask_of p.ipv4_src;
  ipv4_dst = mask_of p.ipv4_dst;
  tcp_src = seen p.tcp_src 0;
  tcp_dst = seen p.tcp_dst 0;
  udp_src = seen p.udp_src 0;
  udp_dst = seen p.udp_dst 0;
  ipv6_src = mask_of p.ipv6_src;
  ipv6_dst = mask_of p.ipv6_dst;
}
