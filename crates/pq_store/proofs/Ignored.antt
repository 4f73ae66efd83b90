-- Diagrams whose value on packets doesn't depend on a field's number.
use Rattle.std.proofs.Common.{◌≡◌, ◌<◌, ◌^◌, ℕ, ◌-◌, ◌/◌, ◌%◌, Bool, true, false, List, [], ◌∷◌, refl, sym, ◌∙◌, ap, subst, inl, inr, true≢false, arith}
use Rattle.std.specs.Prelude.{◌==◌, ◌&&◌, ◌||◌, if◌then◌else◌}
use Rattle.std.proofs.Math.Bool.{or-true}
use Rattle.std.proofs.lemmas.Bool.Decides.{eqb_tells}
use Rattle.pq_fields.specs.declared.field.Field.{Field}
use Rattle.pq_fields.specs.declared.field.Field.TheVariants.{Switch, Port, EthType, IpProto, EthSrc, EthDst, Ipv4Src, Ipv4Dst, TcpSrc}
use Rattle.pq_fields.specs.declared.field.Field.TheVariants.{TcpDst, UdpSrc, UdpDst, Ipv6Src, Ipv6Dst}
use Rattle.pq_fields.specs.Packet.{Fit, Numbers, has_field, number_in, is_ip, is_ipv4, is_ipv6, rank, width_of, with_number}
use Rattle.pq_fields.proofs.Fitting.{number_fits}
use Rattle.pq_store.specs.declared.test.Test.{Test}
use Rattle.pq_store.specs.declared.test.Test.TheVariants.{Equal, Bit}
use Rattle.pq_store.specs.Test.{IsLawful, field_of, passes}
use Rattle.pq_store.specs.Tree.{Tree, value}
use Rattle.pq_store.specs.Tree.Tree.{Tip, Fork}
use Rattle.pq_store.specs.Diagram.{AllLawful, IsDiagram}
use Rattle.pq_store.specs.Laws.{Ignores, IsUntested, MakePresent, PassesAll, StandsBelow, and_prerequisite}
use Rattle.pq_store.proofs.Point.{Point, leaf_at, InRange}
use Rattle.pq_store.proofs.Order.{rank_injective}
use Rattle.pq_store.proofs.Packets.{packet_of, whole_number_of_packet, packet_fits, passes_packet_of, value_packet_of}
use Rattle.pq_store.proofs.PrefixNumbers.{number_with, number_with_other}
use Rattle.pq_store.proofs.Points.{yes_point, yes_turns}
use Rattle.pq_store.proofs.Sides.{yes_diagram, no_diagram}
use Rattle.pq_store.proofs.Unique.{zero_point, zero_in_range}
use Rattle.pq_store.proofs.Guarded.{AllPass, AreAlikeOff, AreAhead, IsKey, StayLacking, Guarded, own_ahead, ahead_no, pass_still, guarded, guarded_untested}

-- a test asks for its field's number alone
pub passes_number : (s : Test) (x y : Numbers) → number_in (field_of s) x ≡ number_in (field_of s) y → passes s x ≡ passes s y
passes_number (Equal f v) x y same = ap (λ n. n == v) same
passes_number (Bit f i) x y same = ap (λ n. n / 2 ^ (width_of f - 1 - i) % 2 == 1) same

module _ {L : Type 0} where
  -- packets that answer each test alike have the same value
  value_same : (t : Tree L) (x y : Numbers) → AllLawful t → ((s : Test) → IsLawful s → passes s x ≡ passes s y) → value t x ≡ value t y
  value_same (Tip l) x y lawful same = refl
  value_same (Fork s t u) x y lawful same = rw (same s lawful.0, value_same t x y lawful.1 same, value_same u x y lawful.2 same) refl

  -- a value that doesn't depend on the field's number is the same at points alike but for the field
  points_same : (f : Field) (Here : Numbers → Type 0) (t : Tree L) → AllLawful t → Ignores f Here t
      → (p q : Point) → InRange p → InRange q → Here (packet_of p) → AreAlikeOff f p q → leaf_at t p ≡ leaf_at t q
  points_same f Here t lawful ignores p q p_in q_in here alike =
      sym (value_packet_of t lawful p)
      ∙ sym (ignores (packet_of p) m (packet_fits p p_in) (number_fits f (packet_of q) (packet_fits q q_in)) here)
      ∙ value_same t (with_number f m (packet_of p)) (packet_of q) lawful same
      ∙ value_packet_of t lawful q
    where
      m : ℕ
      m = number_in f (packet_of q)

      same : (s : Test) → IsLawful s → passes s (with_number f m (packet_of p)) ≡ passes s (packet_of q)
      same s s_is = elim (eqb_tells (rank (field_of s)) (rank f)) [
        | inl own ↦
            passes_number s (with_number f m (packet_of p)) (packet_of q)
            (subst (λ g. number_in g (with_number f m (packet_of p)) ≡ number_in g (packet_of q))
            (rank_injective f (field_of s) (sym own.1)) (number_with f m (packet_of p)))
        | inr other ↦
            passes_number s (with_number f m (packet_of p)) (packet_of p) (number_with_other f (field_of s) m (packet_of p) other.1)
            ∙ (passes_packet_of s s_is p ∙ (alike s (λ e. other.1 (sym e)) ∙ sym (passes_packet_of s s_is q)))
      ]

-- a diagram whose value is the same whatever a field's number doesn't test the field
pub untested : {L : Type 0} (f : Field) (t : Tree L) → IsDiagram t → Ignores f (λ x. Unit {0}) t → IsUntested f t
untested f t d ignores s tested own =
    guarded_untested f (λ p. Unit {0}) (λ p q still lacks. tt) (λ p. tt) [] t d tt
    (guarded f (λ p. Unit {0}) (λ p q still lacks. tt) [] t d tt
    (λ p q p_in q_in p_pass q_pass lacks alike. points_same f (λ x. Unit {0}) t d.lawful ignores p q p_in q_in tt alike))
    zero_point zero_in_range tt s tested (ap rank (sym own))

-- the packet of the point lacks the field
abbrev Lacking : Field → Point → Type 0
Lacking f p = has_field f (packet_of p) ≡ false

-- a choice holds where each side leads to one that does
or_follows : (a b c d : Bool) → (a ≡ true → c ≡ true) → (b ≡ true → d ≡ true) → (a || b) ≡ true → (c || d) ≡ true
or_follows true b c d left right is = rw (left refl) refl
or_follows false true c d left right is = rw (right refl) (or-true c)
or_follows false false c d left right is = absurd (true≢false (sym is))

-- and so does what holds together
and_follows : (a b c d : Bool) → (a ≡ true → c ≡ true) → (b ≡ true → d ≡ true) → (a && b) ≡ true → (c && d) ≡ true
and_follows true true c d left right is = rw (left refl, right refl) refl
and_follows true false c d left right is = absurd (true≢false (sym is))
and_follows false b c d left right is = absurd (true≢false (sym is))

-- the second packet's EtherType and IP protocol are in prerequisites only where the first's are the same
pub record FollowsKeys (f : Field) (x y : Numbers) : Type 0 where
  pub types : (v : ℕ) → IsKey v → 2 < rank f → (y.eth_type == v) ≡ true → (x.eth_type == v) ≡ true
  pub protocols : (v : ℕ) → IsKey v → 3 < rank f → (y.ip_proto == v) ≡ true → (x.ip_proto == v) ≡ true

-- so the first has the field where the second does
present_follows : (f : Field) (x y : Numbers) → FollowsKeys f x y → has_field f y ≡ true → has_field f x ≡ true
present_follows f x y follows = by f follows
  where
    ipv4 : (f : Field) → FollowsKeys f x y → 2 < rank f → is_ipv4 y ≡ true → is_ipv4 x ≡ true
    ipv4 f follows later = follows.types 0x0800 (λ none. none.0 refl) later

    ipv6 : (f : Field) → FollowsKeys f x y → 2 < rank f → is_ipv6 y ≡ true → is_ipv6 x ≡ true
    ipv6 f follows later = follows.types 0x86dd (λ none. none.1.0 refl) later

    ip : (f : Field) → FollowsKeys f x y → 2 < rank f → is_ip y ≡ true → is_ip x ≡ true
    ip f follows later = or_follows (is_ipv4 y) (is_ipv6 y) (is_ipv4 x) (is_ipv6 x) (ipv4 f follows later) (ipv6 f follows later)

    over : (f : Field) (v : ℕ) → FollowsKeys f x y → 3 < rank f → IsKey v → (is_ip y && (y.ip_proto == v)) ≡ true → (is_ip x && (x.ip_proto == v)) ≡ true
    over f v follows later key = and_follows (is_ip y) (y.ip_proto == v) (is_ip x) (x.ip_proto == v) (ip f follows (omega arith))
        (follows.protocols v key later)

    by : (f : Field) → FollowsKeys f x y → has_field f y ≡ true → has_field f x ≡ true
    by Switch follows is = refl
    by Port follows is = refl
    by EthType follows is = refl
    by IpProto follows is = ip IpProto follows (omega arith) is
    by EthSrc follows is = refl
    by EthDst follows is = refl
    by Ipv4Src follows is = ipv4 Ipv4Src follows (omega arith) is
    by Ipv4Dst follows is = ipv4 Ipv4Dst follows (omega arith) is
    by TcpSrc follows is = over TcpSrc 6 follows (omega arith) (λ none. none.1.1.0 refl) is
    by TcpDst follows is = over TcpDst 6 follows (omega arith) (λ none. none.1.1.0 refl) is
    by UdpSrc follows is = over UdpSrc 17 follows (omega arith) (λ none. none.1.1.1.0 refl) is
    by UdpDst follows is = over UdpDst 17 follows (omega arith) (λ none. none.1.1.1.0 refl) is
    by Ipv6Src follows is = ipv6 Ipv6Src follows (omega arith) is
    by Ipv6Dst follows is = ipv6 Ipv6Dst follows (omega arith) is

-- and the second lacks it where the first does
lacking_follows : (f : Field) (x y : Numbers) → FollowsKeys f x y → has_field f x ≡ false → has_field f y ≡ false
lacking_follows f x y follows lacks = by (has_field f y) refl
  where
    by : (b : Bool) → has_field f y ≡ b → has_field f y ≡ false
    by true is = absurd (true≢false (sym (present_follows f x y follows is) ∙ lacks))
    by false is = is

-- the EtherType and the IP protocol of a point are its packet's
type_is : (p : Point) → (packet_of p).eth_type ≡ p.number EthType
type_is p = whole_number_of_packet EthType p refl

protocol_is : (p : Point) → (packet_of p).ip_proto ≡ p.number IpProto
protocol_is p = whole_number_of_packet IpProto p refl

-- a point that gains none of the numbers in prerequisites stays lacking
lacking_stays : (f : Field) → StayLacking f (Lacking f)
lacking_stays f p q still lacks = lacking_follows f (packet_of p) (packet_of q) (record {
  types = λ v key later is. ap (λ n. n == v) (type_is p) ∙ still EthType v later key (ap (λ n. n == v) (sym (type_is q)) ∙ is);
  protocols = λ v key later is. ap (λ n. n == v) (protocol_is p) ∙ still IpProto v later key (ap (λ n. n == v) (sym (protocol_is q)) ∙ is);
}) lacks

-- the tests of fields in prerequisites
abbrev prerequisites : List Test → List Test
prerequisites [] = []
prerequisites (s ∷ ss) = and_prerequisite s (prerequisites ss)

-- a point with the EtherType and the IP protocol of a packet
abbrev with_prerequisites : Numbers → Point → Point
with_prerequisites x z = record { number = λ g. if (rank g == rank EthType) || (rank g == rank IpProto) then number_in g x else z.number g; bit = z.bit }

-- it is in range
prerequisites_in_range : (x : Numbers) (z : Point) → Fit x → InRange z → InRange (with_prerequisites x z)
prerequisites_in_range x z fit z_in g whole = by ((rank g == rank EthType) || (rank g == rank IpProto))
  where
    by : (b : Bool) → (if b then number_in g x else z.number g) < 2 ^ width_of g
    by true = number_fits g x fit
    by false = z_in g whole

-- it passes the tests of these fields that the packet passes, and the others that the point passes
pass_prerequisites : (passed : List Test) (x : Numbers) (z : Point) → PassesAll (prerequisites passed) x → AllPass passed z
    → AllPass passed (with_prerequisites x z)
pass_prerequisites [] x z pass z_pass = tt
pass_prerequisites (Equal g v ∷ rs) x z pass z_pass =
    by (λ more. pass_prerequisites rs x z more z_pass.1) ((rank g == rank EthType) || (rank g == rank IpProto)) pass
  where
    by : (PassesAll (prerequisites rs) x → AllPass rs (with_prerequisites x z)) → (b : Bool)
        → PassesAll (if b then Equal g v ∷ prerequisites rs else prerequisites rs) x
        → (((if b then number_in g x else z.number g) == v) ≡ true) × AllPass rs (with_prerequisites x z)
    by more true pass = (pass.0, more pass.1)
    by more false pass = (z_pass.0, more pass)
pass_prerequisites (Bit g i ∷ rs) x z pass z_pass = (z_pass.0, pass_prerequisites rs x z pass z_pass.1)

-- it lacks the fields that the packet lacks
prerequisites_lack : (f : Field) (x : Numbers) (z : Point) → has_field f x ≡ false → Lacking f (with_prerequisites x z)
prerequisites_lack f x z lacks = lacking_follows f x (packet_of (with_prerequisites x z)) (record {
  types = λ v key later is. ap (λ n. n == v) (sym (type_is (with_prerequisites x z))) ∙ is;
  protocols = λ v key later is. ap (λ n. n == v) (sym (protocol_is (with_prerequisites x z))) ∙ is;
}) lacks

-- tests that some point passes, and none that lacks the field, make the field present by those of fields in prerequisites
made_present : (f : Field) (passed : List Test) (z : Point) → InRange z → AllPass passed z
    → ((x : Point) → InRange x → AllPass passed x → Lacking f x → ⊥) → MakePresent (prerequisites passed) f
made_present f passed z z_in z_pass none x fit pass = by (has_field f x) refl
  where
    by : (b : Bool) → has_field f x ≡ b → has_field f x ≡ true
    by true is = is
    by false is = absurd (none (with_prerequisites x z) (prerequisites_in_range x z fit z_in) (pass_prerequisites passed x z pass z_pass)
        (prerequisites_lack f x z is))

-- so each test of the field is below its prerequisites
stands_below : {L : Type 0} (f : Field) (passed : List Test) (t : Tree L) (z : Point) → IsDiagram t → AreAhead passed t → InRange z → AllPass passed z
    → Guarded f (Lacking f) (lacking_stays f) passed t → StandsBelow f (prerequisites passed) t
stands_below f passed (Tip l) z d ahead z_in z_pass guards = tt
stands_below f passed (Fork s y n) z d ahead z_in z_pass guards =
    let turned = yes_turns s z d.lawful.0 z_in in (
      (λ own. made_present f passed z z_in z_pass (guards.0 (ap rank (sym own)))),
      stands_below f (s ∷ passed) y (yes_point s z) (yes_diagram s y n d) (own_ahead passed s y n d ahead) turned.in_range
          (turned.answers, pass_still passed s y n z (yes_point s z) ahead turned.alike z_pass) guards.1,
      stands_below f passed n z (no_diagram s y n d) (ahead_no passed s y n d ahead) z_in z_pass guards.2,
    )

-- where the value is the same whatever the number of a field that the packet lacks
pub prerequisites_first : {L : Type 0} (f : Field) (t : Tree L) → IsDiagram t → Ignores f (λ x. has_field f x ≡ false) t → StandsBelow f [] t
prerequisites_first f t d ignores =
    stands_below f [] t zero_point d tt zero_in_range tt
    (guarded f (Lacking f) (lacking_stays f) [] t d tt
    (λ p q p_in q_in p_pass q_pass lacks alike. points_same f (λ x. has_field f x ≡ false) t d.lawful ignores p q p_in q_in lacks alike))
