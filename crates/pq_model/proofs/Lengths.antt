-- How long the bytes of a match are at the most, and those of a barrier.
use Rattle.std.proofs.Common.{◌≡◌, ℕ, ◌+◌, ◌^◌, ◌<◌, ◌≤◌, Bool, true, false, cond, eqb, List, ◌++◌, length, Option, None, Some, refl, arith}
use Rattle.std.specs.Int.{w16, w32, w128, to_be_bytes}
use Rattle.std.proofs.lemmas.List.{length-append}
use Rattle.pq_model.specs.declared.message.Message.TheVariants.{Barrier}
use Rattle.pq_model.specs.Lawful.{IsLawfulMessage}
use Rattle.pq_model.specs.MatchFields.{MatchFields}
use Rattle.pq_model.specs.Spelling.{byte, mac_bytes, match_oxms, message_bytes, ones32, ones128, oxm, oxm_masked, stated, stated_masked, with_header}

-- how long a field is at the most
stated_short : (field size : ℕ) (bytes : ℕ → List ℕ) → ((n : ℕ) → length (bytes n) ≡ size) → (x : Option ℕ) → length (stated field bytes x) ≤ 4 + size
stated_short field size bytes long None = omega arith
stated_short field size bytes long (Some n) = omega (arith, long n)

-- the same of one with a mask
masked_short : (field size : ℕ) (bytes : ℕ → List ℕ) → ((n : ℕ) → length (bytes n) ≡ size) → (ones : ℕ) (x : Option (ℕ × ℕ))
    → length (stated_masked field bytes ones x) ≤ 4 + size + size
masked_short field size bytes long ones None = omega arith
masked_short field size bytes long ones (Some a) = by (eqb a.1 ones)
  where
    by : (b : Bool) → length (cond b (oxm field (bytes a.0)) (oxm_masked field (bytes a.0) (bytes a.1))) ≤ 4 + size + size
    by true = omega (arith, long a.0)
    by false = omega (arith, long a.0, long a.1, length-append (bytes a.0) (bytes a.1))

-- and of two lists of bytes together
joined_short : (a b : List ℕ) (m n : ℕ) → length a ≤ m → length b ≤ n → length (a ++ b) ≤ m + n
joined_short a b m n p q = omega (arith, p, q, length-append a b)

-- the fields of a match take 165 bytes at the most
pub oxms_short : (m : MatchFields) → length (match_oxms m) ≤ 165
unfolding match_oxms
oxms_short m =
    let to_in_port = stated_short 0 4 (to_be_bytes w32) (λ n. refl) m.in_port in
    let to_vlan = joined_short _ (stated 6 (to_be_bytes w16) m.vlan) 8 6 to_in_port (stated_short 6 2 (to_be_bytes w16) (λ n. refl) m.vlan) in
    let to_eth_type = joined_short _ (stated 5 (to_be_bytes w16) m.eth_type) 14 6 to_vlan (stated_short 5 2 (to_be_bytes w16) (λ n. refl) m.eth_type) in
    let to_ip_proto = joined_short _ (stated 10 byte m.ip_proto) 20 5 to_eth_type (stated_short 10 1 byte (λ n. refl) m.ip_proto) in
    let to_eth_src = joined_short _ (stated 4 mac_bytes m.eth_src) 25 10 to_ip_proto (stated_short 4 6 mac_bytes (λ n. refl) m.eth_src) in
    let to_eth_dst = joined_short _ (stated 3 mac_bytes m.eth_dst) 35 10 to_eth_src (stated_short 3 6 mac_bytes (λ n. refl) m.eth_dst) in
    let to_ipv4_src = joined_short _ (stated_masked 11 (to_be_bytes w32) ones32 m.ipv4_src) 45 12 to_eth_dst
    (masked_short 11 4 (to_be_bytes w32) (λ n. refl) ones32 m.ipv4_src) in
    let to_ipv4_dst = joined_short _ (stated_masked 12 (to_be_bytes w32) ones32 m.ipv4_dst) 57 12 to_ipv4_src
    (masked_short 12 4 (to_be_bytes w32) (λ n. refl) ones32 m.ipv4_dst) in
    let to_tcp_src = joined_short _ (stated 13 (to_be_bytes w16) m.tcp_src) 69 6 to_ipv4_dst (stated_short 13 2 (to_be_bytes w16) (λ n. refl) m.tcp_src) in
    let to_tcp_dst = joined_short _ (stated 14 (to_be_bytes w16) m.tcp_dst) 75 6 to_tcp_src (stated_short 14 2 (to_be_bytes w16) (λ n. refl) m.tcp_dst) in
    let to_udp_src = joined_short _ (stated 15 (to_be_bytes w16) m.udp_src) 81 6 to_tcp_dst (stated_short 15 2 (to_be_bytes w16) (λ n. refl) m.udp_src) in
    let to_udp_dst = joined_short _ (stated 16 (to_be_bytes w16) m.udp_dst) 87 6 to_udp_src (stated_short 16 2 (to_be_bytes w16) (λ n. refl) m.udp_dst) in
    let to_ipv6_src = joined_short _ (stated_masked 26 (to_be_bytes w128) ones128 m.ipv6_src) 93 36 to_udp_dst
    (masked_short 26 16 (to_be_bytes w128) (λ n. refl) ones128 m.ipv6_src) in
    joined_short _ (stated_masked 27 (to_be_bytes w128) ones128 m.ipv6_dst) 129 36 to_ipv6_src
    (masked_short 27 16 (to_be_bytes w128) (λ n. refl) ones128 m.ipv6_dst)

-- a barrier is lawful, whatever its number
pub barrier_lawful : (xid : ℕ) → xid < 2 ^ 32 → IsLawfulMessage (Barrier xid)
unfolding message_bytes with_header
barrier_lawful xid few = record { content = few; short = omega arith }
