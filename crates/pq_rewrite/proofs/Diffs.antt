-- Writes that change all they write are determined by the packet that they give.
use Rattle.std.proofs.Common.{ℕ, ◌≡◌, ◌∙◌, Bool, true, false, Option, None, Some, ◌==◌, if◌then◌else◌, inl, inr, refl, sym, ap}
use Rattle.std.specs.Option.{unwrap_or}
use Rattle.std.proofs.lemmas.Bool.{true≢false}
use Rattle.std.proofs.lemmas.Bool.Decides.{eqb_tells}
use Rattle.pq_apply.proofs.Choices.{one_of_same}
use Rattle.pq_fields.specs.declared.field.Field.{Field}
use Rattle.pq_fields.specs.declared.field.Field.TheVariants.{Switch, Port, EthType, IpProto, EthSrc, EthDst, Ipv4Src, Ipv4Dst, TcpSrc}
use Rattle.pq_fields.specs.declared.field.Field.TheVariants.{TcpDst, UdpSrc, UdpDst, Ipv6Src, Ipv6Dst}
use Rattle.pq_fields.specs.Packet.{Numbers, has_field}
use Rattle.pq_fields.specs.Writes.{Written, diff, no_writes, on, written_in}
use Rattle.pq_rewrite.specs.Rewriting.{ChangesAll}

-- the number after writes of a field that the packet may have
abbrev after_write : Bool → Option ℕ → ℕ → ℕ
after_write has o m = if has then unwrap_or o m else m

-- the second number where it is another
abbrev other_number : ℕ → ℕ → Option ℕ
other_number m n = if m == n then None else Some n

-- there is none where it is the same
same_number : (m n : ℕ) → m ≡ n → other_number m n ≡ None
same_number m n same = elim (eqb_tells m n) [ inl e ↦ rw e.0 refl | inr e ↦ absurd (e.1 same) ]

-- and there is where it isn't
another_number : (m n : ℕ) → (m ≡ n → ⊥) → other_number m n ≡ Some n
another_number m n apart = elim (eqb_tells m n) [ inl e ↦ absurd (apart e.1) | inr e ↦ rw e.0 refl ]

-- a field is written exactly where its number becomes another, where writes change all they write
change_shows : (has : Bool) (o : Option ℕ) (m : ℕ) → ((n : ℕ) → o ≡ Some n → (has ≡ true) × (m ≡ n → ⊥)) → o ≡ other_number m (after_write has o m)
change_shows true None m changes = sym (same_number m m refl)
change_shows false None m changes = sym (same_number m m refl)
change_shows true (Some n) m changes = sym (another_number m n (changes n refl).1)
change_shows false (Some n) m changes = absurd (true≢false (sym (changes n refl).0))

-- writes that change all they write are the difference that they make
pub changes_differ : (x : Numbers) (w : Written) → ChangesAll x w → w ≡ diff x (on w x)
changes_differ x w changes = λ i. record {
  port = change_shows true w.port x.port (changes Port) i;
  eth_src = change_shows true w.eth_src x.eth_src (changes EthSrc) i;
  eth_dst = change_shows true w.eth_dst x.eth_dst (changes EthDst) i;
  ipv4_src = change_shows (has_field Ipv4Src x) w.ipv4_src x.ipv4_src (changes Ipv4Src) i;
  ipv4_dst = change_shows (has_field Ipv4Dst x) w.ipv4_dst x.ipv4_dst (changes Ipv4Dst) i;
  tcp_src = change_shows (has_field TcpSrc x) w.tcp_src x.tcp_src (changes TcpSrc) i;
  tcp_dst = change_shows (has_field TcpDst x) w.tcp_dst x.tcp_dst (changes TcpDst) i;
  udp_src = change_shows (has_field UdpSrc x) w.udp_src x.udp_src (changes UdpSrc) i;
  udp_dst = change_shows (has_field UdpDst x) w.udp_dst x.udp_dst (changes UdpDst) i;
}

-- two of them that give the same packet are the same
pub same_changes : (x : Numbers) (v w : Written) → ChangesAll x v → ChangesAll x w → on v x ≡ on w x → v ≡ w
same_changes x v w v_changes w_changes same = changes_differ x v v_changes ∙ (ap (diff x) same ∙ sym (changes_differ x w w_changes))

-- nothing is written
pub none_written : (f : Field) → written_in f no_writes ≡ None
none_written Switch = refl
none_written Port = refl
none_written EthType = refl
none_written IpProto = refl
none_written EthSrc = refl
none_written EthDst = refl
none_written Ipv4Src = refl
none_written Ipv4Dst = refl
none_written TcpSrc = refl
none_written TcpDst = refl
none_written UdpSrc = refl
none_written UdpDst = refl
none_written Ipv6Src = refl
none_written Ipv6Dst = refl

-- then the packet one_of_same
pub on_none : (x : Numbers) → on no_writes x ≡ x
on_none x = λ i. record x {
  ipv4_src = sym (one_of_same (has_field Ipv4Src x) x.ipv4_src) i;
  ipv4_dst = sym (one_of_same (has_field Ipv4Dst x) x.ipv4_dst) i;
  tcp_src = sym (one_of_same (has_field TcpSrc x) x.tcp_src) i;
  tcp_dst = sym (one_of_same (has_field TcpDst x) x.tcp_dst) i;
  udp_src = sym (one_of_same (has_field UdpSrc x) x.udp_src) i;
  udp_dst = sym (one_of_same (has_field UdpDst x) x.udp_dst) i;
}
