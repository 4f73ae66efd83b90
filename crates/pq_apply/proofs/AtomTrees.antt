-- The trees of single tests: where they may be, what they say, and what they test.
use Rattle.std.proofs.Common.{ℕ, zero, suc, ◌+◌, ◌^◌, ◌<◌, ◌≤◌, ◌≡◌, ◌∙◌, Bool, true, false, List, [], ◌∷◌, Some, refl, ap, sym, inl, inr}
use Rattle.std.proofs.Common.{eq-eqb, ne_eqb, if◌then◌else◌, arith}
use Rattle.std.specs.Prelude.{◌==◌, ◌&&◌, ◌||◌, slice_get}
use Rattle.std.proofs.lemmas.Bool.{true≢false}
use Rattle.pq_fields.specs.declared.field.Field.{Field}
use Rattle.pq_fields.specs.declared.field.Field.TheVariants.{Switch, Port, EthType, IpProto, EthSrc, EthDst, Ipv4Src, Ipv4Dst, TcpSrc}
use Rattle.pq_fields.specs.declared.field.Field.TheVariants.{TcpDst, UdpSrc, UdpDst, Ipv6Src, Ipv6Dst}
use Rattle.pq_fields.specs.Packet.{Numbers, Fit, rank, width_of, number_in, bit_in, has_field, is_ipv4, is_ipv6}
use Rattle.pq_fields.specs.Pred.{leading}
use Rattle.pq_store.specs.declared.test.Test.{Test}
use Rattle.pq_store.specs.declared.test.Test.TheVariants.{Equal, Bit}
use Rattle.pq_store.specs.Test.{is_address, IsLawful}
use Rattle.pq_store.specs.Tree.{Tree, value}
use Rattle.pq_store.specs.Tree.Tree.{Tip, Fork}
use Rattle.pq_store.specs.Diagram.{IsBefore, counts, most, HasEqualSides}
use Rattle.pq_store.specs.Store.{IsJoinable, JoinsAt}
use Rattle.pq_store.specs.Room.{IsAmong, IsCounted, Within}
use Rattle.pq_store.proofs.RoomLemmas.{roomy, tip_within, fork_within}
use Rattle.pq_fields.proofs.Fitting.{number_fits}
use Rattle.pq_apply.specs.Atoms.{bit_at, bit_fork, bits_tree, number_tree, protocol_tree, type_tree, ip_tree, present_tree, IsOfBits, IsInner}
use Rattle.pq_apply.specs.Predicates.{NeedsAmong}
use Rattle.pq_apply.proofs.Leading.{fewer, none_lead, all_lead, bit_joins, bit_follows}

-- a test counts for one number at most
pub counts_one : (f : Field) (s : Test) → counts f s ≤ 1
counts_one f (Equal g v) = by (rank f == rank g)
  where
    by : (b : Bool) → (if b then 1 else 0) ≤ 1
    by true = omega arith
    by false = omega arith
counts_one f (Bit g i) = omega arith

-- a test whose sides differ is put before them
pub forked : {L : Type 0} (old new : List (Tree L)) (s : Test) (i j k : ℕ) (y n : Tree L) → JoinsAt old s i j new k
    → slice_get old i ≡ Some y → slice_get old j ≡ Some n → (HasEqualSides s y n → ⊥) → slice_get new k ≡ Some (Fork s y n)
forked old new s i j k y n joins y_is n_is differ = let found = joins y n y_is n_is in elim (found.2) [
  | inl same ↦ absurd (differ same.0)
  | inr fork ↦ found.1 ∙ ap Some fork.1
]

-- after a bit are tests of later bits
pub bits_fork : (b : Bool) (f : Field) (i : ℕ) (t : Tree Bool) → IsOfBits f (suc i) t → IsOfBits f i (bit_fork b f i t)
bits_fork true f i t behind = record {
  first = λ s before. before;
  skips = λ g. (behind.skips g, tt);
  none = λ g. let e = behind.none g in omega arith;
  some = λ e. absurd cc;
}
bits_fork false f i t behind = record {
  first = λ s before. before;
  skips = λ g. (tt, behind.skips g);
  none = λ g. let e = behind.none g in omega arith;
  some = λ e. absurd cc;
}

-- the tests of a number's bits are such
pub bits_tests : (f : Field) (n i m : ℕ) → IsOfBits f i (bits_tree f n i m)
unfolding bits_tree
bits_tests f n i zero = record { first = λ s before. tt; skips = λ g. tt; none = λ g. refl; some = λ e. absurd cc }
bits_tests f n i (suc m) = bits_fork (bit_at f n i) f i (bits_tree f n (suc i) m) (bits_tests f n (suc i) m)

-- no bits are a leaf
pub no_bits : (f : Field) (n i d : ℕ) → d ≡ 0 → bits_tree f n i d ≡ Tip true
unfolding bits_tree
no_bits f n i d h = ap (bits_tree f n i) h

-- bits are a first one and those after it
pub more_bits : (f : Field) (n i j d e : ℕ) → j ≡ suc i → d ≡ suc e → bits_tree f n i d ≡ bit_fork (bit_at f n i) f i (bits_tree f n j e)
unfolding bits_tree
more_bits f n i j d e next h = ap (bits_tree f n i) h ∙ ap (λ k. bit_fork (bit_at f n i) f i (bits_tree f n k e)) (sym next)

-- a bit may be tested before later bits and a leaf
pub yes_bit : (f : Field) (i : ℕ) (t : Tree Bool) → is_address f ≡ true → i < width_of f → IsOfBits f (suc i) t → IsJoinable (Bit f i) t (Tip false)
yes_bit f i t address within behind = record {
  lawful = (address, within);
  before_yes = behind.first (Bit f i) (inr (refl, omega arith));
  before_no = tt;
  once = tt;
  fits = λ g. omega (arith, behind.none g, roomy g);
}

-- or before a leaf and later bits
pub no_bit : (f : Field) (i : ℕ) (t : Tree Bool) → is_address f ≡ true → i < width_of f → IsOfBits f (suc i) t → IsJoinable (Bit f i) (Tip false) t
no_bit f i t address within behind = record {
  lawful = (address, within);
  before_yes = tt;
  before_no = behind.first (Bit f i) (inr (refl, omega arith));
  once = tt;
  fits = λ g. omega (arith, behind.none g, roomy g);
}

-- tests of a field's bits are of that field
pub bits_inner : (f : Field) (i : ℕ) (t : Tree Bool) → IsOfBits f i t → IsInner (rank f) 1 t
bits_inner f i t bits = record {
  first = λ s less. bits.first s (inl less);
  skips = λ g less. bits.skips g;
  few = λ g. omega (arith, bits.none g);
  some = bits.some;
}

-- and so is the test of its number
pub number_inner : (f : Field) (n : ℕ) → IsInner (rank f) 1 (number_tree f n)
unfolding number_tree
number_inner f n = by (is_address f)
  where
    by : (b : Bool) → IsInner (rank f) 1 (if b then bits_tree f n 0 (width_of f) else Fork (Equal f n) (Tip true) (Tip false))
    by true = bits_inner f 0 (bits_tree f n 0 (width_of f)) (bits_tests f n 0 (width_of f))
    by false = record {
      first = λ s less. inl less;
      skips = λ g less. ((λ e. omega arith), tt, tt);
      few = λ g. omega (arith, counts_one g (Equal f n));
      some = λ e. absurd cc;
    }

-- tests of fields from a rank on are tests from each rank before on
pub from_lower : (from lower many more : ℕ) (t : Tree Bool) → lower ≤ from → many ≤ more → IsInner from many t → IsInner lower more t
from_lower from lower many more t below few inner = record {
  first = λ s less. inner.first s (omega arith);
  skips = λ g less. inner.skips g (omega arith);
  few = λ g. omega (arith, inner.few g);
  some = inner.some;
}

-- a test of an earlier field before them
pub equal_inner : (f : Field) (n from many : ℕ) (t : Tree Bool) → rank f < from → IsInner from many t
    → IsInner (rank f) (suc many) (Fork (Equal f n) t (Tip false))
equal_inner f n from many t below inner = record {
  first = λ s less. inl less;
  skips = λ g less. ((λ e. omega arith), inner.skips g (omega arith), tt);
  few = λ g. omega (arith, counts_one g (Equal f n), inner.few g);
  some = λ e. absurd cc;
}

-- it may be there
pub equal_joins : (f : Field) (v from many : ℕ) (t n : Tree Bool) → IsLawful (Equal f v) → rank f < from → IsInner from many t → many ≤ 4
    → IsBefore (Equal f v) n → ((g : Field) → most g n ≤ 4) → IsJoinable (Equal f v) t n
equal_joins f v from many t n lawful below inner few before small = record {
  lawful = lawful;
  before_yes = inner.first (Equal f v) below;
  before_no = before;
  once = inner.skips f below;
  fits = λ g. omega (arith, counts_one g (Equal f v), inner.few g, small g, roomy g);
}

-- what a fork on a bit says
fork_says : (b : Bool) (f : Field) (i : ℕ) (t : Tree Bool) (x : Numbers)
    → value (bit_fork b f i t) x ≡ (if bit_in f i x then (if b then value t x else false) else (if b then false else value t x))
fork_says true f i t x = refl
fork_says false f i t x = refl

-- the tests of a number's bits after others, where those agree
abbrev SayBehind : Field → ℕ → ℕ → ℕ → Numbers → Type 0
SayBehind f n i m x = leading f i (number_in f x) ≡ leading f i n → value (bits_tree f n i m) x ≡ (leading f (i + m) (number_in f x) == leading f (i + m) n)

-- the tests of a number's bits, after equal leading bits, say whether those with them are equal
bits_say : (f : Field) (n i m : ℕ) (x : Numbers) → i + m ≤ width_of f → leading f i (number_in f x) ≡ leading f i n
    → value (bits_tree f n i m) x ≡ (leading f (i + m) (number_in f x) == leading f (i + m) n)
unfolding bits_tree
bits_say f n i zero x fits same =
    let e : i + 0 ≡ i = omega arith in
    sym (ap (λ k. leading f k (number_in f x) == leading f k n) e ∙ eq-eqb (leading f i (number_in f x)) (leading f i n) same)
bits_say f n i (suc m) x fits same =
    fork_says (bit_at f n i) f i (bits_tree f n (suc i) m) x
    ∙ by (λ more. bits_say f n (suc i) m x (omega arith) more) (bit_at f n i) (bit_in f i x) refl refl
  where
    on : suc i + m ≡ i + suc m
    on = omega arith

    agree : SayBehind f n (suc i) m x → bit_in f i x ≡ bit_at f n i
        → value (bits_tree f n (suc i) m) x ≡ (leading f (i + suc m) (number_in f x) == leading f (i + suc m) n)
    agree behind bit =
        behind (bit_joins f (number_in f x) n i (omega arith) same bit)
        ∙ ap (λ k. leading f k (number_in f x) == leading f k n) on

    differ : (bit_in f i x ≡ bit_at f n i → ⊥) → false ≡ (leading f (i + suc m) (number_in f x) == leading f (i + suc m) n)
    differ other = sym (ne_eqb (leading f (i + suc m) (number_in f x)) (leading f (i + suc m) n)
        (λ e. other (bit_follows f (number_in f x) n i (omega arith)
        (fewer f (number_in f x) n (suc i) m (omega arith) (ap (λ k. leading f k (number_in f x)) on ∙ (e ∙ ap (λ k. leading f k n) (sym on)))))))

    by : SayBehind f n (suc i) m x → (b c : Bool) → bit_at f n i ≡ b → bit_in f i x ≡ c
        → (if c then (if b then value (bits_tree f n (suc i) m) x else false) else (if b then false else value (bits_tree f n (suc i) m) x))
        ≡ (leading f (i + suc m) (number_in f x) == leading f (i + suc m) n)
    by behind true true b_is c_is = agree behind (c_is ∙ sym b_is)
    by behind true false b_is c_is = differ (λ e. true≢false (sym b_is ∙ (sym e ∙ c_is)))
    by behind false true b_is c_is = differ (λ e. true≢false (sym c_is ∙ (e ∙ b_is)))
    by behind false false b_is c_is = agree behind (c_is ∙ sym b_is)

-- the tests of a number's first bits say whether the leading bits are equal
pub leads_value : (f : Field) (n len : ℕ) (x : Numbers) → Fit x → n < 2 ^ width_of f → len ≤ width_of f
    → value (bits_tree f n 0 len) x ≡ (leading f len (number_in f x) == leading f len n)
leads_value f n len x fit small fits =
    let e : 0 + len ≡ len = omega arith in
    bits_say f n 0 len x (omega arith) (none_lead f (number_in f x) (number_fits f x fit) ∙ sym (none_lead f n small))
    ∙ ap (λ k. leading f k (number_in f x) == leading f k n) e

-- a condition is the choice that it makes
pub said_itself : (b : Bool) → (if b then true else false) ≡ b
said_itself true = refl
said_itself false = refl

-- the test of a number says whether the field's number is this one
pub number_value : (f : Field) (n : ℕ) (x : Numbers) → Fit x → n < 2 ^ width_of f → value (number_tree f n) x ≡ (number_in f x == n)
unfolding number_tree
number_value f n x fit small = by (is_address f)
  where
    by : (b : Bool) → value (if b then bits_tree f n 0 (width_of f) else Fork (Equal f n) (Tip true) (Tip false)) x ≡ (number_in f x == n)
    by true =
        leads_value f n (width_of f) x fit small (omega arith)
        ∙ (λ k. all_lead f (number_in f x) k == all_lead f n k)
    by false = said_itself (number_in f x == n)

-- below its prerequisites a tree holds where the packet has the field and the tree holds
pub present_value : (f : Field) (t : Tree Bool) (x : Numbers) → value (present_tree f t) x ≡ (has_field f x && value t x)
unfolding present_tree
present_value f t x = by f
  where
    one : (a b : Bool) → (if a then b else false) ≡ (a && b)
    one true b = refl
    one false b = refl

    two : (a b c : Bool) → (if a then c else (if b then c else false)) ≡ ((a || b) && c)
    two true b c = refl
    two false true c = refl
    two false false c = refl

    three : (a b c d : Bool) → (if a then (if d then c else false) else (if b then (if d then c else false) else false)) ≡ (((a || b) && d) && c)
    three true b c true = refl
    three true b c false = refl
    three false true c true = refl
    three false true c false = refl
    three false false c d = refl

    by : (f : Field) → value (present_tree f t) x ≡ (has_field f x && value t x)
    by Switch = refl
    by Port = refl
    by EthType = refl
    by IpProto = two (is_ipv4 x) (is_ipv6 x) (value t x)
    by EthSrc = refl
    by EthDst = refl
    by Ipv4Src = one (is_ipv4 x) (value t x)
    by Ipv4Dst = one (is_ipv4 x) (value t x)
    by TcpSrc = three (is_ipv4 x) (is_ipv6 x) (value t x) (x.ip_proto == 6)
    by TcpDst = three (is_ipv4 x) (is_ipv6 x) (value t x) (x.ip_proto == 6)
    by UdpSrc = three (is_ipv4 x) (is_ipv6 x) (value t x) (x.ip_proto == 17)
    by UdpDst = three (is_ipv4 x) (is_ipv6 x) (value t x) (x.ip_proto == 17)
    by Ipv6Src = one (is_ipv6 x) (value t x)
    by Ipv6Dst = one (is_ipv6 x) (value t x)

-- bits are not numbers
pub bits_within : (ns : Field → List ℕ) (f : Field) (n i m : ℕ) → Within ns (bits_tree f n i m)
unfolding bits_tree
bits_within ns f n i zero = tip_within ns true
bits_within ns f n i (suc m) = by (bits_tree f n (suc i) m) (bits_within ns f n (suc i) m) (bit_at f n i)
  where
    by : (t : Tree Bool) → Within ns t → (b : Bool) → Within ns (bit_fork b f i t)
    by t behind true = fork_within ns (Bit f i) t (Tip false) tt behind (tip_within ns false)
    by t behind false = fork_within ns (Bit f i) (Tip false) t tt (tip_within ns false) behind

-- the test of a number tests that number
pub number_within : (ns : Field → List ℕ) (f : Field) (n : ℕ) → IsCounted ns f n → Within ns (number_tree f n)
unfolding number_tree
number_within ns f n here = by (is_address f) refl
  where
    by : (b : Bool) → is_address f ≡ b → Within ns (if b then bits_tree f n 0 (width_of f) else Fork (Equal f n) (Tip true) (Tip false))
    by true address = bits_within ns f n 0 (width_of f)
    by false whole = fork_within ns (Equal f n) (Tip true) (Tip false) (here whole) (tip_within ns true) (tip_within ns false)

-- prerequisites test their numbers
pub present_within : (ns : Field → List ℕ) (f : Field) (t : Tree Bool) → NeedsAmong ns f → Within ns t → Within ns (present_tree f t)
unfolding present_tree
present_within ns f t needs inner = by f needs
  where
    first : (v : ℕ) (vs : List ℕ) → IsAmong v (v ∷ vs)
    first v vs = (0, v, omega arith, refl, refl)

    second : (u v : ℕ) → IsAmong v (u ∷ v ∷ [])
    second u v = (1, v, omega arith, refl, refl)

    typed : (v : ℕ) (u : Tree Bool) → IsAmong v (ns EthType) → Within ns u → Within ns (type_tree v u)
    typed v u here u_in = fork_within ns (Equal EthType v) u (Tip false) here u_in (tip_within ns false)

    numbered : (v : ℕ) (u : Tree Bool) → IsAmong v (ns IpProto) → Within ns u → Within ns (protocol_tree v u)
    numbered v u here u_in = fork_within ns (Equal IpProto v) u (Tip false) here u_in (tip_within ns false)

    both : (u : Tree Bool) → ((v : ℕ) → IsAmong v (0x0800 ∷ 0x86dd ∷ []) → IsAmong v (ns EthType)) → Within ns u → Within ns (ip_tree u)
    both u types u_in =
        fork_within ns (Equal EthType 0x0800) u (type_tree 0x86dd u) (types 0x0800 (first 0x0800 (0x86dd ∷ []))) u_in
        (typed 0x86dd u (types 0x86dd (second 0x0800 0x86dd)) u_in)

    by : (f : Field) → NeedsAmong ns f → Within ns (present_tree f t)
    by Switch needs = inner
    by Port needs = inner
    by EthType needs = inner
    by IpProto needs = both t needs.types inner
    by EthSrc needs = inner
    by EthDst needs = inner
    by Ipv4Src needs = typed 0x0800 t (needs.types 0x0800 (first 0x0800 [])) inner
    by Ipv4Dst needs = typed 0x0800 t (needs.types 0x0800 (first 0x0800 [])) inner
    by TcpSrc needs = both (protocol_tree 6 t) needs.types (numbered 6 t (needs.protocols 6 (first 6 [])) inner)
    by TcpDst needs = both (protocol_tree 6 t) needs.types (numbered 6 t (needs.protocols 6 (first 6 [])) inner)
    by UdpSrc needs = both (protocol_tree 17 t) needs.types (numbered 17 t (needs.protocols 17 (first 17 [])) inner)
    by UdpDst needs = both (protocol_tree 17 t) needs.types (numbered 17 t (needs.protocols 17 (first 17 [])) inner)
    by Ipv6Src needs = typed 0x86dd t (needs.types 0x86dd (first 0x86dd [])) inner
    by Ipv6Dst needs = typed 0x86dd t (needs.types 0x86dd (first 0x86dd [])) inner
