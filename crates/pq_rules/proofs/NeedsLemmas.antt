-- Matches with one statement more are lawful where the prerequisites of the field are stated.
use Rattle.std.proofs.Common.{◌≡◌, ◌≢◌, ◌⊎◌, inl, inr, ℕ, suc, ◌-◌, ◌^◌, ◌<◌, Bool, true, false, List, [], ◌∷◌, Some, None, sym, ap, arith}
use Rattle.std.proofs.Common.{eqb-true, true≢false}
use Rattle.std.specs.Prelude.{◌==◌, ◌&&◌, IfSome}
use Rattle.std.specs.Option.{unwrap_or}
use Rattle.std.specs.declared.option.Option.{Option}
use Rattle.std.proofs.lemmas.Bool.{eq-eqb, or_cases}
use Rattle.pq_fields.specs.declared.field.Field.{Field}
use Rattle.pq_fields.specs.declared.field.Field.TheVariants.{Switch, Port, EthType, IpProto, EthSrc, EthDst, Ipv4Src, Ipv4Dst, TcpSrc}
use Rattle.pq_fields.specs.declared.field.Field.TheVariants.{TcpDst, UdpSrc, UdpDst, Ipv6Src, Ipv6Dst}
use Rattle.pq_fields.specs.Packet.{Numbers, Fit, has_field, is_ip, width_of, zero_packet}
use Rattle.pq_model.specs.MatchFields.{MatchFields, IsLawfulMatch, IsMasked, IsPortNumber}
use Rattle.pq_store.specs.declared.test.Test.{Test}
use Rattle.pq_store.specs.declared.test.Test.TheVariants.{Equal, Bit}
use Rattle.pq_store.specs.Laws.{MakePresent, PassesAll, is_prerequisite}
use Rattle.pq_store.specs.Test.{passes}
use Rattle.pq_layout.specs.Entries.{stated_with, with_bit, with_number}
use Rattle.pq_lookup.proofs.MaskedBits.{AreWhole}
use Rattle.pq_lookup.proofs.Views.{stated_number, stated_bits, narrowed}
use Rattle.pq_rules.proofs.MasksLemmas.{stated_more}

-- what a match has to state where it states the field
abbrev pub Needs : Field → MatchFields → Type 0
Needs Switch m = Unit {0}
Needs Port m = Unit {0}
Needs EthType m = Unit {0}
Needs IpProto m = (m.eth_type ≡ Some 0x0800) ⊎ (m.eth_type ≡ Some 0x86dd)
Needs EthSrc m = Unit {0}
Needs EthDst m = Unit {0}
Needs Ipv4Src m = m.eth_type ≡ Some 0x0800
Needs Ipv4Dst m = m.eth_type ≡ Some 0x0800
Needs TcpSrc m = m.ip_proto ≡ Some 6
Needs TcpDst m = m.ip_proto ≡ Some 6
Needs UdpSrc m = m.ip_proto ≡ Some 17
Needs UdpDst m = m.ip_proto ≡ Some 17
Needs Ipv6Src m = m.eth_type ≡ Some 0x86dd
Needs Ipv6Dst m = m.eth_type ≡ Some 0x86dd

-- numbers of ports are such
abbrev pub IsPortTest : Field → ℕ → Type 0
IsPortTest Switch v = Unit {0}
IsPortTest Port v = IsPortNumber v
IsPortTest EthType v = Unit {0}
IsPortTest IpProto v = Unit {0}
IsPortTest EthSrc v = Unit {0}
IsPortTest EthDst v = Unit {0}
IsPortTest Ipv4Src v = Unit {0}
IsPortTest Ipv4Dst v = Unit {0}
IsPortTest TcpSrc v = Unit {0}
IsPortTest TcpDst v = Unit {0}
IsPortTest UdpSrc v = Unit {0}
IsPortTest UdpDst v = Unit {0}
IsPortTest Ipv6Src v = Unit {0}
IsPortTest Ipv6Dst v = Unit {0}

-- what holds of a value, where there is one
if_some : {A : Type 0} (P Q : A → Type 0) (o : Option A) → ((a : A) → P a → Q a) → IfSome o P → IfSome o Q
if_some P Q None weaker holds = tt
if_some P Q (Some a) weaker holds = weaker a holds

-- the prerequisite of a stated field is stated
unstated : {A : Type 0} (P Q : A → Type 0) (o : Option A) (R : Type 0) → ((a : A) → P a → ⊥) → IfSome o P → IfSome o Q
unstated P Q o R none holds = if_some P Q o (λ a p. absurd (none a p)) holds

-- a match with a number more
pub lawful_number : (f : Field) (v : ℕ) (m : MatchFields) → IsLawfulMatch m → v < 2 ^ width_of f → IsPortTest f v → stated_number f m ≡ None
    → Needs f m → IsLawfulMatch (with_number f v m)
lawful_number Switch v m h fits port fresh needs = h
lawful_number Port v m h fits port fresh needs = record {
  in_port = port;
  vlan = h.vlan;
  eth_type = h.eth_type;
  ip_proto = h.ip_proto;
  eth_src = h.eth_src;
  eth_dst = h.eth_dst;
  ipv4_src = h.ipv4_src;
  ipv4_dst = h.ipv4_dst;
  tcp_src = h.tcp_src;
  tcp_dst = h.tcp_dst;
  udp_src = h.udp_src;
  udp_dst = h.udp_dst;
  ipv6_src = h.ipv6_src;
  ipv6_dst = h.ipv6_dst;
}
lawful_number EthType v m h fits port fresh needs = record {
  in_port = h.in_port;
  vlan = h.vlan;
  eth_type = fits;
  ip_proto = if_some (λ n. (n < 2 ^ 8) × ((m.eth_type ≡ Some 0x0800) ⊎ (m.eth_type ≡ Some 0x86dd)))
      (λ n. (n < 2 ^ 8) × ((Some v ≡ Some 0x0800) ⊎ (Some v ≡ Some 0x86dd))) m.ip_proto
      (λ n p. absurd (elim p.1 [ inl is ↦ cc | inr is ↦ cc ])) h.ip_proto;
  eth_src = h.eth_src;
  eth_dst = h.eth_dst;
  ipv4_src = if_some (λ a. IsMasked 32 a × (m.eth_type ≡ Some 0x0800)) (λ a. IsMasked 32 a × (Some v ≡ Some 0x0800)) m.ipv4_src
      (λ n p. absurd (let is = p.1 in cc)) h.ipv4_src;
  ipv4_dst = if_some (λ a. IsMasked 32 a × (m.eth_type ≡ Some 0x0800)) (λ a. IsMasked 32 a × (Some v ≡ Some 0x0800)) m.ipv4_dst
      (λ n p. absurd (let is = p.1 in cc)) h.ipv4_dst;
  tcp_src = h.tcp_src;
  tcp_dst = h.tcp_dst;
  udp_src = h.udp_src;
  udp_dst = h.udp_dst;
  ipv6_src = if_some (λ a. IsMasked 128 a × (m.eth_type ≡ Some 0x86dd)) (λ a. IsMasked 128 a × (Some v ≡ Some 0x86dd)) m.ipv6_src
      (λ n p. absurd (let is = p.1 in cc)) h.ipv6_src;
  ipv6_dst = if_some (λ a. IsMasked 128 a × (m.eth_type ≡ Some 0x86dd)) (λ a. IsMasked 128 a × (Some v ≡ Some 0x86dd)) m.ipv6_dst
      (λ n p. absurd (let is = p.1 in cc)) h.ipv6_dst;
}
lawful_number IpProto v m h fits port fresh needs = record {
  in_port = h.in_port;
  vlan = h.vlan;
  eth_type = h.eth_type;
  ip_proto = (fits, needs);
  eth_src = h.eth_src;
  eth_dst = h.eth_dst;
  ipv4_src = h.ipv4_src;
  ipv4_dst = h.ipv4_dst;
  tcp_src = if_some (λ n. (n < 2 ^ 16) × (m.ip_proto ≡ Some 6)) (λ n. (n < 2 ^ 16) × (Some v ≡ Some 6)) m.tcp_src
      (λ n p. absurd (let is = p.1 in cc)) h.tcp_src;
  tcp_dst = if_some (λ n. (n < 2 ^ 16) × (m.ip_proto ≡ Some 6)) (λ n. (n < 2 ^ 16) × (Some v ≡ Some 6)) m.tcp_dst
      (λ n p. absurd (let is = p.1 in cc)) h.tcp_dst;
  udp_src = if_some (λ n. (n < 2 ^ 16) × (m.ip_proto ≡ Some 17)) (λ n. (n < 2 ^ 16) × (Some v ≡ Some 17)) m.udp_src
      (λ n p. absurd (let is = p.1 in cc)) h.udp_src;
  udp_dst = if_some (λ n. (n < 2 ^ 16) × (m.ip_proto ≡ Some 17)) (λ n. (n < 2 ^ 16) × (Some v ≡ Some 17)) m.udp_dst
      (λ n p. absurd (let is = p.1 in cc)) h.udp_dst;
  ipv6_src = h.ipv6_src;
  ipv6_dst = h.ipv6_dst;
}
lawful_number EthSrc v m h fits port fresh needs = record {
  in_port = h.in_port;
  vlan = h.vlan;
  eth_type = h.eth_type;
  ip_proto = h.ip_proto;
  eth_src = fits;
  eth_dst = h.eth_dst;
  ipv4_src = h.ipv4_src;
  ipv4_dst = h.ipv4_dst;
  tcp_src = h.tcp_src;
  tcp_dst = h.tcp_dst;
  udp_src = h.udp_src;
  udp_dst = h.udp_dst;
  ipv6_src = h.ipv6_src;
  ipv6_dst = h.ipv6_dst;
}
lawful_number EthDst v m h fits port fresh needs = record {
  in_port = h.in_port;
  vlan = h.vlan;
  eth_type = h.eth_type;
  ip_proto = h.ip_proto;
  eth_src = h.eth_src;
  eth_dst = fits;
  ipv4_src = h.ipv4_src;
  ipv4_dst = h.ipv4_dst;
  tcp_src = h.tcp_src;
  tcp_dst = h.tcp_dst;
  udp_src = h.udp_src;
  udp_dst = h.udp_dst;
  ipv6_src = h.ipv6_src;
  ipv6_dst = h.ipv6_dst;
}
lawful_number Ipv4Src v m h fits port fresh needs = h
lawful_number Ipv4Dst v m h fits port fresh needs = h
lawful_number TcpSrc v m h fits port fresh needs = record {
  in_port = h.in_port;
  vlan = h.vlan;
  eth_type = h.eth_type;
  ip_proto = h.ip_proto;
  eth_src = h.eth_src;
  eth_dst = h.eth_dst;
  ipv4_src = h.ipv4_src;
  ipv4_dst = h.ipv4_dst;
  tcp_src = (fits, needs);
  tcp_dst = h.tcp_dst;
  udp_src = h.udp_src;
  udp_dst = h.udp_dst;
  ipv6_src = h.ipv6_src;
  ipv6_dst = h.ipv6_dst;
}
lawful_number TcpDst v m h fits port fresh needs = record {
  in_port = h.in_port;
  vlan = h.vlan;
  eth_type = h.eth_type;
  ip_proto = h.ip_proto;
  eth_src = h.eth_src;
  eth_dst = h.eth_dst;
  ipv4_src = h.ipv4_src;
  ipv4_dst = h.ipv4_dst;
  tcp_src = h.tcp_src;
  tcp_dst = (fits, needs);
  udp_src = h.udp_src;
  udp_dst = h.udp_dst;
  ipv6_src = h.ipv6_src;
  ipv6_dst = h.ipv6_dst;
}
lawful_number UdpSrc v m h fits port fresh needs = record {
  in_port = h.in_port;
  vlan = h.vlan;
  eth_type = h.eth_type;
  ip_proto = h.ip_proto;
  eth_src = h.eth_src;
  eth_dst = h.eth_dst;
  ipv4_src = h.ipv4_src;
  ipv4_dst = h.ipv4_dst;
  tcp_src = h.tcp_src;
  tcp_dst = h.tcp_dst;
  udp_src = (fits, needs);
  udp_dst = h.udp_dst;
  ipv6_src = h.ipv6_src;
  ipv6_dst = h.ipv6_dst;
}
lawful_number UdpDst v m h fits port fresh needs = record {
  in_port = h.in_port;
  vlan = h.vlan;
  eth_type = h.eth_type;
  ip_proto = h.ip_proto;
  eth_src = h.eth_src;
  eth_dst = h.eth_dst;
  ipv4_src = h.ipv4_src;
  ipv4_dst = h.ipv4_dst;
  tcp_src = h.tcp_src;
  tcp_dst = h.tcp_dst;
  udp_src = h.udp_src;
  udp_dst = (fits, needs);
  ipv6_src = h.ipv6_src;
  ipv6_dst = h.ipv6_dst;
}
lawful_number Ipv6Src v m h fits port fresh needs = h
lawful_number Ipv6Dst v m h fits port fresh needs = h

-- the mask of a stated address, with what it needs
with_needs : (w k : ℕ) (b : Bool) (o : Option (ℕ × ℕ)) (N : Type 0) → k < w → AreWhole (suc k) o → IfSome o (λ a. IsMasked w a × N) → N
    → IfSome (stated_with (2 ^ k) b o) (λ a. IsMasked w a × N)
with_needs w k b None N within whole holds needs = (stated_more w k b None within whole tt, needs)
with_needs w k b (Some a) N within whole holds needs = (stated_more w k b (Some a) within whole holds.0, needs)

-- a match with a bit more
pub lawful_bit : (f : Field) (i : ℕ) (b : Bool) (m : MatchFields) → IsLawfulMatch m → i < width_of f
    → AreWhole (width_of f - i) (stated_bits f m) → Needs f m → IsLawfulMatch (with_bit f i b m)
lawful_bit Switch i b m h within whole needs = h
lawful_bit Port i b m h within whole needs = h
lawful_bit EthType i b m h within whole needs = h
lawful_bit IpProto i b m h within whole needs = h
lawful_bit EthSrc i b m h within whole needs = h
lawful_bit EthDst i b m h within whole needs = h
lawful_bit Ipv4Src i b m h within whole needs = record {
  in_port = h.in_port;
  vlan = h.vlan;
  eth_type = h.eth_type;
  ip_proto = h.ip_proto;
  eth_src = h.eth_src;
  eth_dst = h.eth_dst;
  ipv4_src = with_needs 32 (31 - i) b m.ipv4_src (m.eth_type ≡ Some 0x0800) (omega arith) (narrowed 32 i m.ipv4_src within whole) h.ipv4_src needs;
  ipv4_dst = h.ipv4_dst;
  tcp_src = h.tcp_src;
  tcp_dst = h.tcp_dst;
  udp_src = h.udp_src;
  udp_dst = h.udp_dst;
  ipv6_src = h.ipv6_src;
  ipv6_dst = h.ipv6_dst;
}
lawful_bit Ipv4Dst i b m h within whole needs = record {
  in_port = h.in_port;
  vlan = h.vlan;
  eth_type = h.eth_type;
  ip_proto = h.ip_proto;
  eth_src = h.eth_src;
  eth_dst = h.eth_dst;
  ipv4_src = h.ipv4_src;
  ipv4_dst = with_needs 32 (31 - i) b m.ipv4_dst (m.eth_type ≡ Some 0x0800) (omega arith) (narrowed 32 i m.ipv4_dst within whole) h.ipv4_dst needs;
  tcp_src = h.tcp_src;
  tcp_dst = h.tcp_dst;
  udp_src = h.udp_src;
  udp_dst = h.udp_dst;
  ipv6_src = h.ipv6_src;
  ipv6_dst = h.ipv6_dst;
}
lawful_bit TcpSrc i b m h within whole needs = h
lawful_bit TcpDst i b m h within whole needs = h
lawful_bit UdpSrc i b m h within whole needs = h
lawful_bit UdpDst i b m h within whole needs = h
lawful_bit Ipv6Src i b m h within whole needs = record {
  in_port = h.in_port;
  vlan = h.vlan;
  eth_type = h.eth_type;
  ip_proto = h.ip_proto;
  eth_src = h.eth_src;
  eth_dst = h.eth_dst;
  ipv4_src = h.ipv4_src;
  ipv4_dst = h.ipv4_dst;
  tcp_src = h.tcp_src;
  tcp_dst = h.tcp_dst;
  udp_src = h.udp_src;
  udp_dst = h.udp_dst;
  ipv6_src = with_needs 128 (127 - i) b m.ipv6_src (m.eth_type ≡ Some 0x86dd) (omega arith) (narrowed 128 i m.ipv6_src within whole) h.ipv6_src needs;
  ipv6_dst = h.ipv6_dst;
}
lawful_bit Ipv6Dst i b m h within whole needs = record {
  in_port = h.in_port;
  vlan = h.vlan;
  eth_type = h.eth_type;
  ip_proto = h.ip_proto;
  eth_src = h.eth_src;
  eth_dst = h.eth_dst;
  ipv4_src = h.ipv4_src;
  ipv4_dst = h.ipv4_dst;
  tcp_src = h.tcp_src;
  tcp_dst = h.tcp_dst;
  udp_src = h.udp_src;
  udp_dst = h.udp_dst;
  ipv6_src = h.ipv6_src;
  ipv6_dst = with_needs 128 (127 - i) b m.ipv6_dst (m.eth_type ≡ Some 0x86dd) (omega arith) (narrowed 128 i m.ipv6_dst within whole) h.ipv6_dst needs;
}

-- The tests that are passed make sure of what is needed.

-- the test is of a field in prerequisites, and its number is stated
abbrev pub IsStated : MatchFields → Test → Type 0
IsStated m (Equal f v) = (is_prerequisite (Equal f v) ≡ true) × (stated_number f m ≡ Some v)
IsStated m (Bit f i) = ⊥

abbrev pub AllStated : MatchFields → List Test → Type 0
AllStated m [] = Unit {0}
AllStated m (s ∷ ss) = IsStated m s × AllStated m ss

-- the packet with what is stated of the fields in prerequisites
stated_packet : MatchFields → Numbers
stated_packet m = record zero_packet { eth_type = unwrap_or m.eth_type 0; ip_proto = unwrap_or m.ip_proto 0 }

below : (k : ℕ) (o : Option ℕ) (P : ℕ → Type 0) → ((n : ℕ) → P n → n < 2 ^ k) → IfSome o P → 0 < 2 ^ k → unwrap_or o 0 < 2 ^ k
below k None P less holds some = some
below k (Some n) P less holds some = less n holds

stated_fits : (m : MatchFields) → IsLawfulMatch m → Fit (stated_packet m)
unfolding stated_packet
stated_fits m h = record {
  switch = omega arith;
  port = omega arith;
  eth_type = below 16 m.eth_type (λ n. n < 2 ^ 16) (λ n p. p) h.eth_type (omega arith);
  ip_proto = below 8 m.ip_proto (λ n. (n < 2 ^ 8) × ((m.eth_type ≡ Some 0x0800) ⊎ (m.eth_type ≡ Some 0x86dd))) (λ n p. p.0) h.ip_proto (omega arith);
  eth_src = omega arith;
  eth_dst = omega arith;
  ipv4_src = omega arith;
  ipv4_dst = omega arith;
  tcp_src = omega arith;
  tcp_dst = omega arith;
  udp_src = omega arith;
  udp_dst = omega arith;
  ipv6_src = omega arith;
  ipv6_dst = omega arith;
}

passes_stated : (m : MatchFields) (s : Test) → IsStated m s → passes s (stated_packet m) ≡ true
unfolding stated_packet
passes_stated m (Bit f i) h = absurd h
passes_stated m (Equal Switch v) h = absurd (true≢false (sym h.0))
passes_stated m (Equal Port v) h = absurd (true≢false (sym h.0))
passes_stated m (Equal EthType v) h = eq-eqb _ _ (ap (λ o. unwrap_or o 0) h.1)
passes_stated m (Equal IpProto v) h = eq-eqb _ _ (ap (λ o. unwrap_or o 0) h.1)
passes_stated m (Equal EthSrc v) h = absurd (true≢false (sym h.0))
passes_stated m (Equal EthDst v) h = absurd (true≢false (sym h.0))
passes_stated m (Equal Ipv4Src v) h = absurd (true≢false (sym h.0))
passes_stated m (Equal Ipv4Dst v) h = absurd (true≢false (sym h.0))
passes_stated m (Equal TcpSrc v) h = absurd (true≢false (sym h.0))
passes_stated m (Equal TcpDst v) h = absurd (true≢false (sym h.0))
passes_stated m (Equal UdpSrc v) h = absurd (true≢false (sym h.0))
passes_stated m (Equal UdpDst v) h = absurd (true≢false (sym h.0))
passes_stated m (Equal Ipv6Src v) h = absurd (true≢false (sym h.0))
passes_stated m (Equal Ipv6Dst v) h = absurd (true≢false (sym h.0))

passes_all : (m : MatchFields) (passed : List Test) → AllStated m passed → PassesAll passed (stated_packet m)
passes_all m [] h = tt
passes_all m (s ∷ ss) h = (passes_stated m s h.0, passes_all m ss h.1)

-- a number that isn't 0 is stated
is_stated : (o : Option ℕ) (n : ℕ) → n ≢ 0 → unwrap_or o 0 == n ≡ true → o ≡ Some n
is_stated None n other same = absurd (other (sym (eqb-true 0 n same)))
is_stated (Some k) n other same = ap Some (eqb-true k n same)

second : (a b : Bool) → a && b ≡ true → b ≡ true
second true b h = h
second false b h = absurd cc

needed : (f : Field) (m : MatchFields) → has_field f (stated_packet m) ≡ true → Needs f m
unfolding stated_packet
needed Switch m h = tt
needed Port m h = tt
needed EthType m h = tt
needed IpProto m h = elim (or_cases (unwrap_or m.eth_type 0 == 0x0800) (unwrap_or m.eth_type 0 == 0x86dd) h) [
  | inl is ↦ inl (is_stated m.eth_type 0x0800 (λ e. absurd (omega (arith, e))) is)
  | inr is ↦ inr (is_stated m.eth_type 0x86dd (λ e. absurd (omega (arith, e))) is)
]
needed EthSrc m h = tt
needed EthDst m h = tt
needed Ipv4Src m h = is_stated m.eth_type 0x0800 (λ e. absurd (omega (arith, e))) h
needed Ipv4Dst m h = is_stated m.eth_type 0x0800 (λ e. absurd (omega (arith, e))) h
needed TcpSrc m h = is_stated m.ip_proto 6 (λ e. absurd (omega (arith, e))) (second (is_ip (stated_packet m)) (unwrap_or m.ip_proto 0 == 6) h)
needed TcpDst m h = is_stated m.ip_proto 6 (λ e. absurd (omega (arith, e))) (second (is_ip (stated_packet m)) (unwrap_or m.ip_proto 0 == 6) h)
needed UdpSrc m h = is_stated m.ip_proto 17 (λ e. absurd (omega (arith, e))) (second (is_ip (stated_packet m)) (unwrap_or m.ip_proto 0 == 17) h)
needed UdpDst m h = is_stated m.ip_proto 17 (λ e. absurd (omega (arith, e))) (second (is_ip (stated_packet m)) (unwrap_or m.ip_proto 0 == 17) h)
needed Ipv6Src m h = is_stated m.eth_type 0x86dd (λ e. absurd (omega (arith, e))) h
needed Ipv6Dst m h = is_stated m.eth_type 0x86dd (λ e. absurd (omega (arith, e))) h

-- where the passed tests make a field present, what it needs is stated
pub needs_met : (f : Field) (m : MatchFields) (passed : List Test) → IsLawfulMatch m → AllStated m passed → MakePresent passed f → Needs f m
needs_met f m passed h stated present = needed f m (present (stated_packet m) (stated_fits m h) (passes_all m passed stated))
