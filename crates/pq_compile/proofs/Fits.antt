-- The numbers that a text stands for fit the fields that they are read for.
use Rattle.std.specs.Prelude.{◌≡◌, ℕ, ◌+◌, ◌-◌, ◌*◌, ◌^◌, ◌<◌, ◌≤◌, Bool, true, false, ◌&&◌, if◌then◌else◌, List, [], ◌∷◌, length, fold}
use Rattle.std.specs.Prelude.{◌==◌, nat_le, bytes_eq, Option, Some, None, Ok, Err}
use Rattle.std.specs.List.{AllByRecursion, Any}
use Rattle.std.specs.Str.{byte}
use Rattle.std.proofs.Common.{arith, suc, refl, sym, ap, subst}
use Rattle.std.proofs.Math.Nat.{pow-zero, div-mul-le_self}
use Rattle.std.proofs.lemmas.Bool.{and_parts, ltb-true, eqb-true}
use Rattle.std.proofs.lemmas.Bool.Decides.{nat_tests}
use Rattle.std.proofs.lemmas.List.Elements.{recursion_from_All}
use Rattle.pq_term.specs.Numbers.{value_of as digits_of, number_of, decimal_of, is_decimal}
use Rattle.pq_term.specs.Groups.{parts}
use Rattle.pq_term.specs.Forms.{is_mac, is_ipv4, is_ipv6_address}
use Rattle.pq_term.specs.Addresses.{groups_value, spell_digits, mac_of, ipv4_of, ipv6_of}
use Rattle.pq_term.proofs.GroupValues.{mac_groups, ipv4_groups, ipv6_groups, below_next}
use Rattle.pq_fields.specs.declared.field.Field.{Field}
use Rattle.pq_fields.specs.declared.field.Field.TheVariants.{Switch as SwitchField, Port, EthType, IpProto, EthSrc, EthDst, Ipv4Src}
use Rattle.pq_fields.specs.declared.field.Field.TheVariants.{Ipv4Dst, TcpSrc, TcpDst, UdpSrc, UdpDst, Ipv6Src, Ipv6Dst}
use Rattle.pq_fields.specs.Packet.{width_of, is_wide}
use Rattle.pq_fields.specs.Pred.{PredTop, PredTree, Equals, Leads, LeadsWide, leaf, is_prefixed, FitsField, IsPredOver}
use Rattle.pq_model.specs.Topology.{Switch, Topology, named_in, switch_named}
use Rattle.pq_model.specs.Install.{IsLawfulSwitch}
use Rattle.pq_topo.specs.declared.fault.NameKind.{NameKind}
use Rattle.pq_topo.specs.declared.fault.NameKind.TheVariants.{BadValue, UnknownSwitch}
use Rattle.pq_topo.specs.Named.{IsNamedTopology}
use Rattle.pq_pred.specs.Named.{MayStand}
use Rattle.pq_pred.specs.Values.{Ruled, or_else, within, name_in, switch_value, value_of, cleared, address_test, address_part, length_part}
use Rattle.pq_pred.specs.Values.{ipv4_test, ipv6_test, exact_test, test_of}

-- Addresses.

-- groups that spell digits, after this many others
value_below : (weight base k value : ℕ) (groups : List (List ℕ)) → spell_digits weight base groups ≡ true → value < weight ^ k
    → fold (λ so_far group. so_far * weight + digits_of base group) value groups < weight ^ (k + length groups)
value_below weight base k value [] small below = let none : k ≡ k + 0 = omega arith in subst (λ k. value < weight ^ k) none below
value_below weight base k value (group ∷ groups) small below =
    let parts = and_parts _ (spell_digits weight base groups) small in
    let digit : digits_of base group < weight = ltb-true _ _ parts.0 in
    let more = value_below weight base (suc k) (value * weight + digits_of base group) groups parts.1
    (below_next weight k value (digits_of base group) below digit) in
    let one : suc k + length groups ≡ k + length (group ∷ groups) = omega arith in
    subst (λ k. fold (λ so_far group. so_far * weight + digits_of base group) (value * weight + digits_of base group) groups < weight ^ k) one more

-- this many groups that spell digits
groups_below : (weight base count : ℕ) (groups : List (List ℕ)) → spell_digits weight base groups ≡ true → length groups ≡ count
    → groups_value weight base groups < weight ^ count
groups_below weight base count groups small long =
    let one : weight ^ 0 ≡ 1 = pow-zero weight in
    let all : 0 + length groups ≡ count = omega (arith, long) in
    subst (λ k. groups_value weight base groups < weight ^ k) all (value_below weight base 0 0 groups small (omega (arith, one)))

mac_fits : (text : List ℕ) (n : ℕ) → mac_of text ≡ Some n → n < 2 ^ 48
mac_fits text n e = by (is_mac text) refl e
  where
    by : (b : Bool) → is_mac text ≡ b → (if b then Some (groups_value 256 16 (parts (byte ":") text)) else None) ≡ Some n → n < 2 ^ 48
    by true is e =
        let same : groups_value 256 16 (parts (byte ":") text) ≡ n = cc in
        let long : length (parts (byte ":") text) ≡ 6 = eqb-true _ _ (and_parts (length (parts (byte ":") text) == 6) _ is).0 in
        let below : groups_value 256 16 (parts (byte ":") text) < 256 ^ 6 = groups_below 256 16 6 (parts (byte ":") text) (mac_groups text is) long in
        omega (arith, same, below)
    by false is e = absurd cc

ipv4_fits : (text : List ℕ) (n : ℕ) → ipv4_of text ≡ Some n → n < 2 ^ 32
ipv4_fits text n e = by (is_ipv4 text) refl e
  where
    by : (b : Bool) → is_ipv4 text ≡ b → (if b then Some (groups_value 256 10 (parts (byte ".") text)) else None) ≡ Some n → n < 2 ^ 32
    by true is e =
        let same : groups_value 256 10 (parts (byte ".") text) ≡ n = cc in
        let long : length (parts (byte ".") text) ≡ 4 = eqb-true _ _ (and_parts (length (parts (byte ".") text) == 4) _ is).0 in
        let below : groups_value 256 10 (parts (byte ".") text) < 256 ^ 4 = groups_below 256 10 4 (parts (byte ".") text) (ipv4_groups text is) long in
        omega (arith, same, below)
    by false is e = absurd cc

ipv6_fits : (text : List ℕ) (n : ℕ) → ipv6_of text ≡ Some n → n < 2 ^ 128
ipv6_fits text n e = by (is_ipv6_address text) refl e
  where
    by : (b : Bool) → is_ipv6_address text ≡ b → (if b then Some (groups_value 65536 16 (parts (byte ":") text)) else None) ≡ Some n → n < 2 ^ 128
    by true is e =
        let same : groups_value 65536 16 (parts (byte ":") text) ≡ n = cc in
        let long : length (parts (byte ":") text) ≡ 8 = eqb-true _ _ (and_parts (length (parts (byte ":") text) == 8) _ is).0 in
        let below : groups_value 65536 16 (parts (byte ":") text) < 65536 ^ 8 = groups_below 65536 16 8 (parts (byte ":") text) (ipv6_groups text is) long in
        omega (arith, same, below)
    by false is e = absurd cc

-- Values.

-- what a ruled value was
there : {A : Type 0} (kind : NameKind) (o : Option A) (a : A) → or_else kind o ≡ Ok a → o ≡ Some a
there kind (Some b) a e = let same : b ≡ a = cc in ap Some same
there kind None a e = absurd cc

pub within_bounds : (least most : ℕ) (o : Option ℕ) (n : ℕ) → within least most o ≡ Ok n → (least ≤ n) × (n ≤ most)
within_bounds least most None n e = absurd cc
within_bounds least most (Some m) n e = by (nat_le least m && nat_le m most) refl e
  where
    by : (b : Bool) → (nat_le least m && nat_le m most) ≡ b → (if b then Ok m else Err BadValue) ≡ Ok n → (least ≤ n) × (n ≤ most)
    by true is e =
        let same : m ≡ n = cc in
        let least : least ≤ n = grind (arith, nat_tests, is, same) in
        let most : n ≤ most = grind (arith, nat_tests, is, same) in
        (least, most)
    by false is e = absurd cc

datapath_fits : (ss : List Switch) (name : List ℕ) (n : ℕ) → AllByRecursion IsLawfulSwitch ss → named_in ss name ≡ Some n → n < 2 ^ 64
datapath_fits [] name n all e = absurd cc
datapath_fits (s ∷ ss) name n all e = by (bytes_eq s.name name) e (datapath_fits ss name n all.1)
  where
    by : (b : Bool) → (if b then Some s.datapath else named_in ss name) ≡ Some n → (named_in ss name ≡ Some n → n < 2 ^ 64) → n < 2 ^ 64
    by true e more = let same : s.datapath ≡ n = cc in subst (λ n. n < 2 ^ 64) same all.0.0
    by false e more = more e

module _ (T : Topology) (named : IsNamedTopology T) where
  switch_fits : (name : Option (List ℕ)) (n : ℕ) → switch_value T name ≡ Ok n → n < 2 ^ 64
  switch_fits (Some name) n e = datapath_fits T.switches name n (recursion_from_All IsLawfulSwitch T.switches named.lawful.switches)
      (there UnknownSwitch (switch_named T name) n e)
  switch_fits None n e = absurd cc

  -- a value of a field fits its width
  pub value_fits : (f : Field) (text : List ℕ) (n : ℕ) → value_of T f text ≡ Ok n → n < 2 ^ width_of f
  value_fits SwitchField text n e = switch_fits (name_in text) n e
  value_fits Port text n e = omega (arith, (within_bounds 1 4294967040 (number_of text) n e).1)
  value_fits EthType text n e = omega (arith, (within_bounds 0 65535 (number_of text) n e).1)
  value_fits IpProto text n e = omega (arith, (within_bounds 0 255 (number_of text) n e).1)
  value_fits EthSrc text n e = mac_fits text n (there BadValue (mac_of text) n e)
  value_fits EthDst text n e = mac_fits text n (there BadValue (mac_of text) n e)
  value_fits Ipv4Src text n e = ipv4_fits text n (there BadValue (ipv4_of text) n e)
  value_fits Ipv4Dst text n e = ipv4_fits text n (there BadValue (ipv4_of text) n e)
  value_fits TcpSrc text n e = omega (arith, (within_bounds 0 65535 (number_of text) n e).1)
  value_fits TcpDst text n e = omega (arith, (within_bounds 0 65535 (number_of text) n e).1)
  value_fits UdpSrc text n e = omega (arith, (within_bounds 0 65535 (number_of text) n e).1)
  value_fits UdpDst text n e = omega (arith, (within_bounds 0 65535 (number_of text) n e).1)
  value_fits Ipv6Src text n e = absurd cc
  value_fits Ipv6Dst text n e = absurd cc

-- Tests.

-- an IPv4 address has 32 bits
prefixed_width : (f : Field) → is_prefixed f ≡ true → width_of f ≡ 32
prefixed_width SwitchField e = absurd cc
prefixed_width Port e = absurd cc
prefixed_width EthType e = absurd cc
prefixed_width IpProto e = absurd cc
prefixed_width EthSrc e = absurd cc
prefixed_width EthDst e = absurd cc
prefixed_width Ipv4Src e = refl
prefixed_width Ipv4Dst e = refl
prefixed_width TcpSrc e = absurd cc
prefixed_width TcpDst e = absurd cc
prefixed_width UdpSrc e = absurd cc
prefixed_width UdpDst e = absurd cc
prefixed_width Ipv6Src e = absurd cc
prefixed_width Ipv6Dst e = absurd cc

-- the leading bits alone are no more than the number
cleared_fits : (f : Field) (len n most : ℕ) → n < most → cleared f len n < most
cleared_fits f len n most below = let less : cleared f len n ≤ n = div-mul-le_self n (2 ^ (width_of f - len)) in omega (arith, less, below)

decimal_most : (most : ℕ) (text : List ℕ) (n : ℕ) → decimal_of most text ≡ Some n → n ≤ most
decimal_most most text n e = by (is_decimal most text) refl e
  where
    by : (b : Bool) → is_decimal most text ≡ b → (if b then Some (digits_of 10 text) else None) ≡ Some n → n ≤ most
    by true is e =
        let same : digits_of 10 text ≡ n = cc in
        let fits : nat_le (digits_of 10 text) most ≡ true = (and_parts _ (nat_le (digits_of 10 text) most) is).1 in
        grind (arith, nat_tests, fits, same)
    by false is e = absurd cc

-- what holds of the test of all bits, and of each prefix, holds of a test of an address
address_over : (P : PredTree → Type 0) (exact : ℕ → PredTop) (prefix : ℕ → ℕ → PredTop) (most : ℕ) (number : Option ℕ)
    (length : Option (List ℕ)) (p : PredTree) → ((n : ℕ) → number ≡ Some n → P (leaf (exact n)))
    → ((n len : ℕ) → number ≡ Some n → len ≤ most → P (leaf (prefix n len))) → address_test exact prefix most number length ≡ Ok p → P p
address_over P exact prefix most None length p whole part e = absurd cc
address_over P exact prefix most (Some n) None p whole part e = let same : leaf (exact n) ≡ p = cc in subst P same (whole n refl)
address_over P exact prefix most (Some n) (Some length) p whole part e = by (decimal_of most length) refl e
  where
    by : (o : Option ℕ) → decimal_of most length ≡ o → address_test exact prefix most (Some n) (Some length) ≡ Ok p → P p
    by (Some len) is e =
        let made : address_test exact prefix most (Some n) (Some length) ≡ Ok (leaf (prefix n len)) = rw is refl in
        let same : leaf (prefix n len) ≡ p = cc in
        subst P same (part n len refl (decimal_most most length len is))
    by None is e =
        let made : address_test exact prefix most (Some n) (Some length) ≡ Err BadValue = rw is refl in
        absurd cc

-- what is read as a value of a field may stand for it, as V says
pub record ReadsOver (T : Topology) (V : Field → ℕ → Type 0) : Type 0 where
  pub values : (f : Field) (text : List ℕ) (n : ℕ) → value_of T f text ≡ Ok n → V f n
  pub addresses : (f : Field) (n : ℕ) → is_prefixed f ≡ true → n < 2 ^ 32 → V f n

-- it fits the width of the field
pub reads_fitting : (T : Topology) → IsNamedTopology T → ReadsOver T FitsField
reads_fitting T named = record { values = value_fits T named; addresses = λ f n is fits. subst (λ w. n < 2 ^ w) (sym (prefixed_width f is)) fits }

module _ (T : Topology) where
  -- the switch with a name has its datapath number
  datapath_named : (ss : List Switch) (name : List ℕ) (n : ℕ) → named_in ss name ≡ Some n → Any (λ s. s.datapath ≡ n) ss
  datapath_named [] name n e = absurd cc
  datapath_named (s ∷ ss) name n e = by (bytes_eq s.name name) e (datapath_named ss name n)
    where
      by : (b : Bool) → (if b then Some s.datapath else named_in ss name) ≡ Some n
          → (named_in ss name ≡ Some n → Any (λ s. s.datapath ≡ n) ss) → Any (λ s. s.datapath ≡ n) (s ∷ ss)
      by true e more = let same : s.datapath ≡ n = cc in (0, s, omega arith, refl, same)
      by false e more = let found = more e in (suc found.0, found.1, omega (arith, found.2), found.3, found.4)

  switch_stands : (name : Option (List ℕ)) (n : ℕ) → switch_value T name ≡ Ok n → Any (λ s. s.datapath ≡ n) T.switches
  switch_stands (Some name) n e = datapath_named T.switches name n (there UnknownSwitch (switch_named T name) n e)
  switch_stands None n e = absurd cc

  value_stands : (f : Field) (text : List ℕ) (n : ℕ) → value_of T f text ≡ Ok n → MayStand T f n
  value_stands SwitchField text n e = switch_stands (name_in text) n e
  value_stands Port text n e = within_bounds 1 4294967040 (number_of text) n e
  value_stands EthType text n e = tt
  value_stands IpProto text n e = tt
  value_stands EthSrc text n e = tt
  value_stands EthDst text n e = tt
  value_stands Ipv4Src text n e = tt
  value_stands Ipv4Dst text n e = tt
  value_stands TcpSrc text n e = tt
  value_stands TcpDst text n e = tt
  value_stands UdpSrc text n e = tt
  value_stands UdpDst text n e = tt
  value_stands Ipv6Src text n e = tt
  value_stands Ipv6Dst text n e = tt

  address_stands : (f : Field) (n : ℕ) → is_prefixed f ≡ true → n < 2 ^ 32 → MayStand T f n
  address_stands SwitchField n is fits = absurd cc
  address_stands Port n is fits = absurd cc
  address_stands EthType n is fits = tt
  address_stands IpProto n is fits = tt
  address_stands EthSrc n is fits = tt
  address_stands EthDst n is fits = tt
  address_stands Ipv4Src n is fits = tt
  address_stands Ipv4Dst n is fits = tt
  address_stands TcpSrc n is fits = tt
  address_stands TcpDst n is fits = tt
  address_stands UdpSrc n is fits = tt
  address_stands UdpDst n is fits = tt
  address_stands Ipv6Src n is fits = tt
  address_stands Ipv6Dst n is fits = tt

  -- it is a number of the network
  pub reads_standing : ReadsOver T (MayStand T)
  reads_standing = record { values = value_stands; addresses = address_stands }

module _ (T : Topology) (V : Field → ℕ → Type 0) (over : ReadsOver T V) where
  ipv4_over : (f : Field) (text : List ℕ) (p : PredTree) → is_prefixed f ≡ true → ipv4_test f text ≡ Ok p → IsPredOver V p
  ipv4_over f text p is e =
      address_over (IsPredOver V) (Equals f) (λ n len. Leads f (cleared f len n) len) 32 (ipv4_of (address_part text)) (length_part text) p
      (λ n there. (over.addresses f n is (ipv4_fits (address_part text) n there), tt, tt))
      (λ n len there short. ((is, cleared_fits f len n (2 ^ 32) (ipv4_fits (address_part text) n there), short), tt, tt))
      e

  ipv6_over : (f : Field) (text : List ℕ) (p : PredTree) → is_wide f ≡ true → ipv6_test f text ≡ Ok p → IsPredOver V p
  ipv6_over f text p is e =
      address_over (IsPredOver V) (λ n. LeadsWide f n 128) (λ n len. LeadsWide f (cleared f len n) len) 128 (ipv6_of (address_part text)) (length_part text) p
      (λ n there. ((is, ipv6_fits (address_part text) n there, omega arith), tt, tt))
      (λ n len there short. ((is, cleared_fits f len n (2 ^ 128) (ipv6_fits (address_part text) n there), short), tt, tt))
      e

  exact_over : (f : Field) (r : Ruled ℕ) (p : PredTree) → ((n : ℕ) → r ≡ Ok n → V f n) → exact_test f r ≡ Ok p → IsPredOver V p
  exact_over f (Ok n) p stands e = let same : leaf (Equals f n) ≡ p = cc in subst (IsPredOver V) same (stands n refl, tt, tt)
  exact_over f (Err kind) p stands e = absurd cc

  -- the test of a field for a value
  pub test_over : (f : Field) (text : List ℕ) (p : PredTree) → test_of T f text ≡ Ok p → IsPredOver V p
  test_over f text p e = by (is_prefixed f) refl (is_wide f) refl e
    where
      by : (b : Bool) → is_prefixed f ≡ b → (c : Bool) → is_wide f ≡ c
          → (if b then ipv4_test f text else if c then ipv6_test f text else exact_test f (value_of T f text)) ≡ Ok p → IsPredOver V p
      by true is c wide e = ipv4_over f text p is e
      by false is true wide e = ipv6_over f text p wide e
      by false is false wide e = exact_over f (value_of T f text) p (over.values f text) e
