-- What covers a packet states what the packet shows under its shape.
use Rattle.std.proofs.Common.{◌≡◌, ℕ, Bool, true, ◌==◌, ◌&&◌, List, [], ◌∷◌, bit_and, arith, refl, ap, ◌⊎◌, inl, inr}
use Rattle.std.proofs.lemmas.Bool.Decides.{nat_tests}
use Rattle.std.specs.declared.option.Option.{Option}
use Rattle.std.specs.declared.option.Option.TheVariants.{None, Some}
use Rattle.std.specs.Cmp.{first_so, second_so}
use Rattle.std.specs.List.{AllByRecursion}
use Rattle.pq_model.specs.MatchFields.{MatchFields, agrees, agrees_masked, covers, vlan_word}
use Rattle.pq_model.specs.Tagged.{TaggedPacket}
use Rattle.pq_switch.specs.Patterns.{mask_of, pattern_of, projected, seen, seen_masked, shape_of}
use Rattle.pq_switch.specs.declared.pattern.Pattern.{Pattern}
use Rattle.pq_switch.proofs.Places.{joined}

-- what shows something states nothing or this
pub stated : (o : Option ℕ) (k : ℕ) → o ≡ seen o k → (o ≡ None) ⊎ (o ≡ Some k)
stated None k h = inl refl
stated (Some v) k h = inr h

joined-all : (b : Bool) (cs : List Bool) → joined b cs ≡ true → (b ≡ true) × AllByRecursion (λ c. c ≡ true) cs
joined-all b [] h = (h, tt)
joined-all b (c ∷ cs) h =
    let more = joined-all (b && c) cs h in
    (first_so b c more.0, (second_so b c more.0, more.1))

same_number_seen : (o : Option ℕ) (n : ℕ) → agrees o n ≡ true → o ≡ seen o n
same_number_seen None n h = refl
same_number_seen (Some v) n h = let e : v ≡ n = grind (arith, nat_tests) in ap (λ k. Some k) e

same_masked_seen : (o : Option (ℕ × ℕ)) (n : ℕ) → agrees_masked o n ≡ true → o ≡ seen_masked o n
same_masked_seen None n h = refl
same_masked_seen (Some a) n h = let e : a.0 ≡ bit_and n a.1 = equal (bit_and n a.1) a.0 h in λ i. Some (e i, a.1)
  where
    equal : (k v : ℕ) → (k == v) ≡ true → v ≡ k
    equal k v h = grind (arith, nat_tests)

abbrev rest_agree : MatchFields → TaggedPacket → List Bool
rest_agree m x =
    agrees m.vlan (vlan_word x.vlan)
    ∷ agrees m.eth_type x.packet.eth_type ∷ agrees m.ip_proto x.packet.ip_proto
    ∷ agrees m.eth_src x.packet.eth_src ∷ agrees m.eth_dst x.packet.eth_dst ∷ agrees_masked m.ipv4_src x.packet.ipv4_src ∷ agrees_masked
    m.ipv4_dst x.packet.ipv4_dst
    ∷ agrees m.tcp_src x.packet.tcp_src ∷ agrees m.tcp_dst x.packet.tcp_dst ∷ agrees m.udp_src x.packet.udp_src ∷ agrees m.udp_dst x.packet.udp_dst
    ∷ agrees_masked m.ipv6_src x.packet.ipv6_src ∷ agrees_masked m.ipv6_dst x.packet.ipv6_dst ∷ []

pub covered : (m : MatchFields) (x : TaggedPacket) → covers m x ≡ true → pattern_of m ≡ projected (pattern_of m) x
unfolding covers
covered m x h =
    let e = joined-all (agrees m.in_port x.packet.port) (rest_agree m x) h in
    let e_1 = e.1 in
    let e_2 = e_1.1 in
    let e_3 = e_2.1 in
    let e_4 = e_3.1 in
    let e_5 = e_4.1 in
    let e_6 = e_5.1 in
    let e_7 = e_6.1 in
    let e_8 = e_7.1 in
    let e_9 = e_8.1 in
    let e_10 = e_9.1 in
    let e_11 = e_10.1 in
    let e_12 = e_11.1 in
    let e_13 = e_12.1 in
    λ i. record {
      in_port = same_number_seen m.in_port x.packet.port e.0 i;
      vlan = same_number_seen m.vlan (vlan_word x.vlan) e_1.0 i;
      eth_type = same_number_seen m.eth_type x.packet.eth_type e_2.0 i;
      ip_proto = same_number_seen m.ip_proto x.packet.ip_proto e_3.0 i;
      eth_src = same_number_seen m.eth_src x.packet.eth_src e_4.0 i;
      eth_dst = same_number_seen m.eth_dst x.packet.eth_dst e_5.0 i;
      ipv4_src = same_masked_seen m.ipv4_src x.packet.ipv4_src e_6.0 i;
      ipv4_dst = same_masked_seen m.ipv4_dst x.packet.ipv4_dst e_7.0 i;
      tcp_src = same_number_seen m.tcp_src x.packet.tcp_src e_8.0 i;
      tcp_dst = same_number_seen m.tcp_dst x.packet.tcp_dst e_9.0 i;
      udp_src = same_number_seen m.udp_src x.packet.udp_src e_10.0 i;
      udp_dst = same_number_seen m.udp_dst x.packet.udp_dst e_11.0 i;
      ipv6_src = same_masked_seen m.ipv6_src x.packet.ipv6_src e_12.0 i;
      ipv6_dst = same_masked_seen m.ipv6_dst x.packet.ipv6_dst e_13.0 i;
    }

twice : (o : Option ℕ) (n : ℕ) → seen (seen o 0) n ≡ seen o n
twice None n = refl
twice (Some v) n = refl

masked_twice : (o : Option (ℕ × ℕ)) (n : ℕ) → seen_masked (mask_of o) n ≡ seen_masked o n
masked_twice None n = refl
masked_twice (Some a) n = refl

-- the shape decides what the packet shows
pub shape-decides : (p : Pattern) (x : TaggedPacket) → projected (shape_of p) x ≡ projected p x
shape-decides p x = λ i. record {
  in_port = twice p.in_port x.packet.port i;
  vlan = twice p.vlan (vlan_word x.vlan) i;
  eth_type = twice p.eth_type x.packet.eth_type i;
  ip_proto = twice p.ip_proto x.packet.ip_proto i;
  eth_src = twice p.eth_src x.packet.eth_src i;
  eth_dst = twice p.eth_dst x.packet.eth_dst i;
  ipv4_src = masked_twice p.ipv4_src x.packet.ipv4_src i;
  ipv4_dst = masked_twice p.ipv4_dst x.packet.ipv4_dst i;
  tcp_src = twice p.tcp_src x.packet.tcp_src i;
  tcp_dst = twice p.tcp_dst x.packet.tcp_dst i;
  udp_src = twice p.udp_src x.packet.udp_src i;
  udp_dst = twice p.udp_dst x.packet.udp_dst i;
  ipv6_src = masked_twice p.ipv6_src x.packet.ipv6_src i;
  ipv6_dst = masked_twice p.ipv6_dst x.packet.ipv6_dst i;
}
