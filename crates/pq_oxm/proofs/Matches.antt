-- A lawful match that is spelled is read back.
use Rattle.std.proofs.Common.{◌≡◌, ℕ, ◌^◌, ◌<◌, ◌≤◌, List, [], ◌∷◌, ◌++◌, Option, None, Some, refl, sym, ap, subst, ◌∙◌, append_assoc, arith, inl, inr}
use Rattle.std.specs.Prelude.{IfSome, ◌⊎◌}
use Rattle.std.specs.Int.{w16, w32, w128, to_be_bytes, from_be_bytes}
use Rattle.std.proofs.lemmas.List.{append-nil}
use Rattle.std.proofs.lemmas.Nat.{and_le_r}
use Rattle.pq_model.specs.MatchFields.{MatchFields, IsLawfulMatch, IsMasked, IsPortNumber, IsTagWord}
use Rattle.pq_model.specs.Spelling.{byte, mac_bytes, ones32, ones128, stated, stated_masked, match_oxms}
use Rattle.pq_oxm.specs.Reading.{number_field, address_field, fields_of, byte_number, mac_number}
use Rattle.pq_oxm.proofs.Numbers.{reads_byte, reads_16, reads_32, reads_mac, reads_128}
use Rattle.pq_oxm.proofs.FieldLaws.{AreOf, none_of, more_of, more_masked_of, number_read, address_read}

-- each number that is stated fits its field
some_of : {A : Type 0} (P Q : A → Type 0) → ((a : A) → P a → Q a) → (x : Option A) → IfSome x P → IfSome x Q
some_of P Q f None p = tt
some_of P Q f (Some a) p = f a p

-- a value under a mask of this many bits has no more
masked_below : (bits : ℕ) (a : ℕ × ℕ) → IsMasked bits a → (a.0 < 2 ^ bits) × (a.1 < 2 ^ bits)
masked_below bits a masked =
    let value : a.0 ≤ a.1 = subst (λ (n : ℕ). n ≤ a.1) masked.2 (and_le_r a.0 a.1) in
    (omega (arith, masked.1), masked.1)

-- a VLAN_VID word has 16 bits
vlan_below : (w : ℕ) → (w ≡ 0) ⊎ IsTagWord w → w < 2 ^ 16
vlan_below w (inl zero) = omega arith
vlan_below w (inr tag) = omega (arith, tag.1)

-- the spelling of a match from each field on, from the last to the first
abbrev from_ipv6_dst : MatchFields → List ℕ
from_ipv6_dst m = stated_masked 27 (to_be_bytes w128) ones128 m.ipv6_dst

abbrev from_ipv6_src : MatchFields → List ℕ
from_ipv6_src m = stated_masked 26 (to_be_bytes w128) ones128 m.ipv6_src ++ from_ipv6_dst m

abbrev from_udp_dst : MatchFields → List ℕ
from_udp_dst m = stated 16 (to_be_bytes w16) m.udp_dst ++ from_ipv6_src m

abbrev from_udp_src : MatchFields → List ℕ
from_udp_src m = stated 15 (to_be_bytes w16) m.udp_src ++ from_udp_dst m

abbrev from_tcp_dst : MatchFields → List ℕ
from_tcp_dst m = stated 14 (to_be_bytes w16) m.tcp_dst ++ from_udp_src m

abbrev from_tcp_src : MatchFields → List ℕ
from_tcp_src m = stated 13 (to_be_bytes w16) m.tcp_src ++ from_tcp_dst m

abbrev from_ipv4_dst : MatchFields → List ℕ
from_ipv4_dst m = stated_masked 12 (to_be_bytes w32) ones32 m.ipv4_dst ++ from_tcp_src m

abbrev from_ipv4_src : MatchFields → List ℕ
from_ipv4_src m = stated_masked 11 (to_be_bytes w32) ones32 m.ipv4_src ++ from_ipv4_dst m

abbrev from_eth_dst : MatchFields → List ℕ
from_eth_dst m = stated 3 mac_bytes m.eth_dst ++ from_ipv4_src m

abbrev from_eth_src : MatchFields → List ℕ
from_eth_src m = stated 4 mac_bytes m.eth_src ++ from_eth_dst m

abbrev from_ip_proto : MatchFields → List ℕ
from_ip_proto m = stated 10 byte m.ip_proto ++ from_eth_src m

abbrev from_eth_type : MatchFields → List ℕ
from_eth_type m = stated 5 (to_be_bytes w16) m.eth_type ++ from_ip_proto m

abbrev from_vlan : MatchFields → List ℕ
from_vlan m = stated 6 (to_be_bytes w16) m.vlan ++ from_eth_type m

abbrev from_in_port : MatchFields → List ℕ
from_in_port m = stated 0 (to_be_bytes w32) m.in_port ++ from_vlan m

-- which fields may begin it
of_ipv6_dst : (m : MatchFields) → AreOf (27 ∷ []) (from_ipv6_dst m)
of_ipv6_dst m = subst (AreOf (27 ∷ [])) (append-nil (from_ipv6_dst m)) (more_masked_of [] (to_be_bytes w128) ones128 27 m.ipv6_dst [] none_of)

of_ipv6_src : (m : MatchFields) → AreOf (26 ∷ 27 ∷ []) (from_ipv6_src m)
of_ipv6_src m = more_masked_of (27 ∷ []) (to_be_bytes w128) ones128 26 m.ipv6_src (from_ipv6_dst m) (of_ipv6_dst m)

of_udp_dst : (m : MatchFields) → AreOf (16 ∷ 26 ∷ 27 ∷ []) (from_udp_dst m)
of_udp_dst m = more_of (26 ∷ 27 ∷ []) (to_be_bytes w16) 16 m.udp_dst (from_ipv6_src m) (of_ipv6_src m)

of_udp_src : (m : MatchFields) → AreOf (15 ∷ 16 ∷ 26 ∷ 27 ∷ []) (from_udp_src m)
of_udp_src m = more_of (16 ∷ 26 ∷ 27 ∷ []) (to_be_bytes w16) 15 m.udp_src (from_udp_dst m) (of_udp_dst m)

of_tcp_dst : (m : MatchFields) → AreOf (14 ∷ 15 ∷ 16 ∷ 26 ∷ 27 ∷ []) (from_tcp_dst m)
of_tcp_dst m = more_of (15 ∷ 16 ∷ 26 ∷ 27 ∷ []) (to_be_bytes w16) 14 m.tcp_dst (from_udp_src m) (of_udp_src m)

of_tcp_src : (m : MatchFields) → AreOf (13 ∷ 14 ∷ 15 ∷ 16 ∷ 26 ∷ 27 ∷ []) (from_tcp_src m)
of_tcp_src m = more_of (14 ∷ 15 ∷ 16 ∷ 26 ∷ 27 ∷ []) (to_be_bytes w16) 13 m.tcp_src (from_tcp_dst m) (of_tcp_dst m)

of_ipv4_dst : (m : MatchFields) → AreOf (12 ∷ 13 ∷ 14 ∷ 15 ∷ 16 ∷ 26 ∷ 27 ∷ []) (from_ipv4_dst m)
of_ipv4_dst m = more_masked_of (13 ∷ 14 ∷ 15 ∷ 16 ∷ 26 ∷ 27 ∷ []) (to_be_bytes w32) ones32 12 m.ipv4_dst (from_tcp_src m) (of_tcp_src m)

of_ipv4_src : (m : MatchFields) → AreOf (11 ∷ 12 ∷ 13 ∷ 14 ∷ 15 ∷ 16 ∷ 26 ∷ 27 ∷ []) (from_ipv4_src m)
of_ipv4_src m = more_masked_of (12 ∷ 13 ∷ 14 ∷ 15 ∷ 16 ∷ 26 ∷ 27 ∷ []) (to_be_bytes w32) ones32 11 m.ipv4_src (from_ipv4_dst m) (of_ipv4_dst m)

of_eth_dst : (m : MatchFields) → AreOf (3 ∷ 11 ∷ 12 ∷ 13 ∷ 14 ∷ 15 ∷ 16 ∷ 26 ∷ 27 ∷ []) (from_eth_dst m)
of_eth_dst m = more_of (11 ∷ 12 ∷ 13 ∷ 14 ∷ 15 ∷ 16 ∷ 26 ∷ 27 ∷ []) mac_bytes 3 m.eth_dst (from_ipv4_src m) (of_ipv4_src m)

of_eth_src : (m : MatchFields) → AreOf (4 ∷ 3 ∷ 11 ∷ 12 ∷ 13 ∷ 14 ∷ 15 ∷ 16 ∷ 26 ∷ 27 ∷ []) (from_eth_src m)
of_eth_src m = more_of (3 ∷ 11 ∷ 12 ∷ 13 ∷ 14 ∷ 15 ∷ 16 ∷ 26 ∷ 27 ∷ []) mac_bytes 4 m.eth_src (from_eth_dst m) (of_eth_dst m)

of_ip_proto : (m : MatchFields) → AreOf (10 ∷ 4 ∷ 3 ∷ 11 ∷ 12 ∷ 13 ∷ 14 ∷ 15 ∷ 16 ∷ 26 ∷ 27 ∷ []) (from_ip_proto m)
of_ip_proto m = more_of (4 ∷ 3 ∷ 11 ∷ 12 ∷ 13 ∷ 14 ∷ 15 ∷ 16 ∷ 26 ∷ 27 ∷ []) byte 10 m.ip_proto (from_eth_src m) (of_eth_src m)

of_eth_type : (m : MatchFields) → AreOf (5 ∷ 10 ∷ 4 ∷ 3 ∷ 11 ∷ 12 ∷ 13 ∷ 14 ∷ 15 ∷ 16 ∷ 26 ∷ 27 ∷ []) (from_eth_type m)
of_eth_type m = more_of (10 ∷ 4 ∷ 3 ∷ 11 ∷ 12 ∷ 13 ∷ 14 ∷ 15 ∷ 16 ∷ 26 ∷ 27 ∷ []) (to_be_bytes w16) 5 m.eth_type (from_ip_proto m) (of_ip_proto m)

of_vlan : (m : MatchFields) → AreOf (6 ∷ 5 ∷ 10 ∷ 4 ∷ 3 ∷ 11 ∷ 12 ∷ 13 ∷ 14 ∷ 15 ∷ 16 ∷ 26 ∷ 27 ∷ []) (from_vlan m)
of_vlan m = more_of (5 ∷ 10 ∷ 4 ∷ 3 ∷ 11 ∷ 12 ∷ 13 ∷ 14 ∷ 15 ∷ 16 ∷ 26 ∷ 27 ∷ []) (to_be_bytes w16) 6 m.vlan (from_eth_type m) (of_eth_type m)

of_in_port : (m : MatchFields) → AreOf (0 ∷ 6 ∷ 5 ∷ 10 ∷ 4 ∷ 3 ∷ 11 ∷ 12 ∷ 13 ∷ 14 ∷ 15 ∷ 16 ∷ 26 ∷ 27 ∷ []) (from_in_port m)
of_in_port m = more_of (6 ∷ 5 ∷ 10 ∷ 4 ∷ 3 ∷ 11 ∷ 12 ∷ 13 ∷ 14 ∷ 15 ∷ 16 ∷ 26 ∷ 27 ∷ []) (to_be_bytes w32) 0 m.in_port (from_vlan m) (of_vlan m)

regrouped : (a b c d e f g h i j k l n o : List ℕ) → a ++ b ++ c ++ d ++ e ++ f ++ g ++ h ++ i ++ j ++ k ++ l ++ n ++ o ≡ a
    ++ (b ++ (c ++ (d ++ (e ++ (f ++ (g ++ (h ++ (i ++ (j ++ (k ++ (l ++ (n ++ (o)))))))))))))
regrouped a b c d e f g h i j k l n o = simp append_assoc

-- field after field
chained : (m : MatchFields)
    (from_in_port from_vlan from_eth_type from_ip_proto from_eth_src from_eth_dst from_ipv4_src from_ipv4_dst from_tcp_src from_tcp_dst
    from_udp_src from_udp_dst from_ipv6_src from_ipv6_dst behind : List ℕ) →
    number_field 0 4 (from_be_bytes w32) from_in_port ≡ (m.in_port, from_vlan) →
    number_field 6 2 (from_be_bytes w16) from_vlan ≡ (m.vlan, from_eth_type) →
    number_field 5 2 (from_be_bytes w16) from_eth_type ≡ (m.eth_type, from_ip_proto) →
    number_field 10 1 byte_number from_ip_proto ≡ (m.ip_proto, from_eth_src) →
    number_field 4 6 mac_number from_eth_src ≡ (m.eth_src, from_eth_dst) →
    number_field 3 6 mac_number from_eth_dst ≡ (m.eth_dst, from_ipv4_src) →
    address_field 11 4 (from_be_bytes w32) ones32 from_ipv4_src ≡ (m.ipv4_src, from_ipv4_dst) →
    address_field 12 4 (from_be_bytes w32) ones32 from_ipv4_dst ≡ (m.ipv4_dst, from_tcp_src) →
    number_field 13 2 (from_be_bytes w16) from_tcp_src ≡ (m.tcp_src, from_tcp_dst) →
    number_field 14 2 (from_be_bytes w16) from_tcp_dst ≡ (m.tcp_dst, from_udp_src) →
    number_field 15 2 (from_be_bytes w16) from_udp_src ≡ (m.udp_src, from_udp_dst) →
    number_field 16 2 (from_be_bytes w16) from_udp_dst ≡ (m.udp_dst, from_ipv6_src) →
    address_field 26 16 (from_be_bytes w128) ones128 from_ipv6_src ≡ (m.ipv6_src, from_ipv6_dst) →
    address_field 27 16 (from_be_bytes w128) ones128 from_ipv6_dst ≡ (m.ipv6_dst, behind) →
    fields_of from_in_port ≡ m
unfolding fields_of
chained m from_in_port from_vlan from_eth_type from_ip_proto from_eth_src from_eth_dst from_ipv4_src from_ipv4_dst from_tcp_src from_tcp_dst
    from_udp_src from_udp_dst from_ipv6_src from_ipv6_dst behind in_port_is vlan_is eth_type_is ip_proto_is eth_src_is eth_dst_is
    ipv4_src_is ipv4_dst_is tcp_src_is tcp_dst_is udp_src_is udp_dst_is ipv6_src_is ipv6_dst_is =
    rw (
      in_port_is,
      vlan_is,
      eth_type_is,
      ip_proto_is,
      eth_src_is,
      eth_dst_is,
      ipv4_src_is,
      ipv4_dst_is,
      tcp_src_is,
      tcp_dst_is,
      udp_src_is,
      udp_dst_is,
      ipv6_src_is,
      ipv6_dst_is,
    ) refl

-- the fields that a lawful match states are read from their spelling
pub fields_read : (m : MatchFields) → IsLawfulMatch m → fields_of (match_oxms m) ≡ m
unfolding match_oxms
fields_read m law =
    let in_port = number_read 4 (2 ^ 32) (to_be_bytes w32) (from_be_bytes w32) reads_32 0 m.in_port (from_vlan m)
    (some_of IsPortNumber (λ n. n < 2 ^ 32) (λ n p. omega (arith, p.1)) m.in_port law.in_port) (of_vlan m 0 refl) in
    let vlan = number_read 2 (2 ^ 16) (to_be_bytes w16) (from_be_bytes w16) reads_16 6 m.vlan (from_eth_type m)
    (some_of (λ w. (w ≡ 0) ⊎ IsTagWord w) (λ n. n < 2 ^ 16) vlan_below m.vlan law.vlan) (of_eth_type m 6 refl) in
    let eth_type = number_read 2 (2 ^ 16) (to_be_bytes w16) (from_be_bytes w16) reads_16 5 m.eth_type (from_ip_proto m) (law.eth_type) (of_ip_proto m 5 refl) in
    let ip_proto = number_read 1 (2 ^ 8) byte byte_number reads_byte 10 m.ip_proto (from_eth_src m)
    (some_of (λ n. (n < 2 ^ 8) × ((m.eth_type ≡ Some 0x0800) ⊎ (m.eth_type ≡ Some 0x86dd))) (λ n. n < 2 ^ 8)
    (λ n p. p.0) m.ip_proto law.ip_proto) (of_eth_src m 10 refl) in
    let eth_src = number_read 6 (2 ^ 48) mac_bytes mac_number reads_mac 4 m.eth_src (from_eth_dst m) (law.eth_src) (of_eth_dst m 4 refl) in
    let eth_dst = number_read 6 (2 ^ 48) mac_bytes mac_number reads_mac 3 m.eth_dst (from_ipv4_src m) (law.eth_dst) (of_ipv4_src m 3 refl) in
    let ipv4_src = address_read 4 (2 ^ 32) (to_be_bytes w32) (from_be_bytes w32) reads_32 11 ones32 m.ipv4_src (from_ipv4_dst m)
    (some_of (λ a. IsMasked 32 a × (m.eth_type ≡ Some 0x0800)) (λ a. (a.0 < 2 ^ 32) × (a.1 < 2 ^ 32))
    (λ a p. masked_below 32 a p.0) m.ipv4_src law.ipv4_src) (of_ipv4_dst m 11 refl) in
    let ipv4_dst = address_read 4 (2 ^ 32) (to_be_bytes w32) (from_be_bytes w32) reads_32 12 ones32 m.ipv4_dst (from_tcp_src m)
    (some_of (λ a. IsMasked 32 a × (m.eth_type ≡ Some 0x0800)) (λ a. (a.0 < 2 ^ 32) × (a.1 < 2 ^ 32))
    (λ a p. masked_below 32 a p.0) m.ipv4_dst law.ipv4_dst) (of_tcp_src m 12 refl) in
    let tcp_src = number_read 2 (2 ^ 16) (to_be_bytes w16) (from_be_bytes w16) reads_16 13 m.tcp_src (from_tcp_dst m)
    (some_of (λ n. (n < 2 ^ 16) × (m.ip_proto ≡ Some 6)) (λ n. n < 2 ^ 16) (λ n p. p.0) m.tcp_src law.tcp_src) (of_tcp_dst m 13 refl) in
    let tcp_dst = number_read 2 (2 ^ 16) (to_be_bytes w16) (from_be_bytes w16) reads_16 14 m.tcp_dst (from_udp_src m)
    (some_of (λ n. (n < 2 ^ 16) × (m.ip_proto ≡ Some 6)) (λ n. n < 2 ^ 16) (λ n p. p.0) m.tcp_dst law.tcp_dst) (of_udp_src m 14 refl) in
    let udp_src = number_read 2 (2 ^ 16) (to_be_bytes w16) (from_be_bytes w16) reads_16 15 m.udp_src (from_udp_dst m)
    (some_of (λ n. (n < 2 ^ 16) × (m.ip_proto ≡ Some 17)) (λ n. n < 2 ^ 16) (λ n p. p.0) m.udp_src law.udp_src)
    (of_udp_dst m 15 refl) in
    let udp_dst = number_read 2 (2 ^ 16) (to_be_bytes w16) (from_be_bytes w16) reads_16 16 m.udp_dst (from_ipv6_src m)
    (some_of (λ n. (n < 2 ^ 16) × (m.ip_proto ≡ Some 17)) (λ n. n < 2 ^ 16) (λ n p. p.0) m.udp_dst law.udp_dst)
    (of_ipv6_src m 16 refl) in
    let ipv6_src = address_read 16 (2 ^ 128) (to_be_bytes w128) (from_be_bytes w128) reads_128 26 ones128 m.ipv6_src (from_ipv6_dst m)
    (some_of (λ a. IsMasked 128 a × (m.eth_type ≡ Some 0x86dd)) (λ a. (a.0 < 2 ^ 128) × (a.1 < 2 ^ 128))
    (λ a p. masked_below 128 a p.0) m.ipv6_src law.ipv6_src) (of_ipv6_dst m 26 refl) in
    let last : from_ipv6_dst m ≡ from_ipv6_dst m ++ [] = sym (append-nil (from_ipv6_dst m)) in
    let ipv6_dst = address_read 16 (2 ^ 128) (to_be_bytes w128) (from_be_bytes w128) reads_128 27 ones128 m.ipv6_dst []
    (some_of (λ a. IsMasked 128 a × (m.eth_type ≡ Some 0x86dd)) (λ a. (a.0 < 2 ^ 128) × (a.1 < 2 ^ 128))
    (λ a p. masked_below 128 a p.0) m.ipv6_dst law.ipv6_dst) (none_of 27 refl) in
    let parted : match_oxms m ≡ from_in_port m = regrouped (stated 0 (to_be_bytes w32) m.in_port) (stated 6 (to_be_bytes w16) m.vlan)
    (stated 5 (to_be_bytes w16) m.eth_type) (stated 10 byte m.ip_proto) (stated 4 mac_bytes m.eth_src) (stated 3 mac_bytes m.eth_dst)
    (stated_masked 11 (to_be_bytes w32) ones32 m.ipv4_src) (stated_masked 12 (to_be_bytes w32) ones32 m.ipv4_dst)
    (stated 13 (to_be_bytes w16) m.tcp_src) (stated 14 (to_be_bytes w16) m.tcp_dst) (stated 15 (to_be_bytes w16) m.udp_src)
    (stated 16 (to_be_bytes w16) m.udp_dst) (stated_masked 26 (to_be_bytes w128) ones128 m.ipv6_src)
    (stated_masked 27 (to_be_bytes w128) ones128 m.ipv6_dst) in
    ap fields_of parted ∙ chained m (from_in_port m) (from_vlan m) (from_eth_type m) (from_ip_proto m) (from_eth_src m) (from_eth_dst m)
    (from_ipv4_src m) (from_ipv4_dst m) (from_tcp_src m) (from_tcp_dst m) (from_udp_src m) (from_udp_dst m) (from_ipv6_src m)
    (from_ipv6_dst m) [] in_port vlan eth_type ip_proto eth_src eth_dst ipv4_src ipv4_dst tcp_src tcp_dst udp_src udp_dst ipv6_src
    (ap (address_field 27 16 (from_be_bytes w128) ones128) last ∙ ipv6_dst)
