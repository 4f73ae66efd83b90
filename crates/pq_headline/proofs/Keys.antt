-- The keys by which packets, copies and bucket entries are sorted tell them apart.
use Rattle.std.proofs.Common.{◌≡◌, ◌+◌, Bool, true, false, ◌&&◌, ◌||◌, ◌==◌, nat_lt, ℕ, List, [], ◌∷◌, ◌++◌, map, refl, sym, ap, arith}
use Rattle.std.specs.declared.option.Option.{Option}
use Rattle.std.specs.declared.option.Option.TheVariants.{None, Some}
use Rattle.std.specs.List.{AllByRecursion}
use Rattle.std.proofs.lemmas.Bool.{true≢false}
use Rattle.std.proofs.lemmas.Bool.Decides.{nat_tests}
use Rattle.pq_fields.specs.Packet.{is_before, numbers}
use Rattle.pq_fields.proofs.Tellings.{head_or, numbers_tell, packet_of, rest_of}
use Rattle.pq_model.specs.Buckets.{Instance, BucketEntry, instance_numbers, entry_numbers}
use Rattle.pq_model.specs.Install.{AscendsBy}
use Rattle.pq_model.specs.Tagged.{TaggedPacket, tagged_numbers, vlan_key}
use Rattle.pq_model.proofs.NumberLists.{by_piece, before_trans}

-- no list of numbers is before itself
pub before_itself : (ks : List ℕ) → is_before ks ks ≡ false
before_itself [] = refl
before_itself (k ∷ ks) =
    let below : nat_lt k k ≡ false = grind (arith, nat_tests) in
    let same : (k == k) ≡ true = grind (arith, nat_tests) in
    (λ i. below i || (same i && before_itself ks i))

module _ {A : Type 0} (key : A → List ℕ) where
  -- the first of an ascending list is before all others
  pub first_ahead : (x : A) (xs : List A) → AscendsBy key (x ∷ xs) → AllByRecursion (λ z. is_before (key x) (key z) ≡ true) xs
  first_ahead x [] up = tt
  first_ahead x (y ∷ ys) up = (up.0, later ys (first_ahead y ys up.1))
    where
      later : (zs : List A) → AllByRecursion (λ z. is_before (key y) (key z) ≡ true) zs → AllByRecursion (λ z. is_before (key x) (key z) ≡ true) zs
      later [] all = tt
      later (z ∷ zs) all = (before_trans (key x) (key y) (key z) up.0 all.0, later zs all.1)

-- what is after the numbers of a packet
abbrev after_numbers : List ℕ → List ℕ
after_numbers l = rest_of (rest_of (rest_of (rest_of (rest_of (rest_of (rest_of (rest_of (rest_of (rest_of (rest_of (rest_of (rest_of (rest_of l)))))))))))))

vlan_tells : (v w : Option ℕ) → vlan_key v ≡ vlan_key w → v ≡ w
vlan_tells None None same = refl
vlan_tells None (Some t) same = absurd (omega arith)
vlan_tells (Some t) None same = absurd (omega arith)
vlan_tells (Some t) (Some u) same = let is : t ≡ u = omega arith in ap (λ n. Some n) is

pub tagged_tell : (x y : TaggedPacket) → tagged_numbers x ≡ tagged_numbers y → x ≡ y
tagged_tell x y same =
    let packets : x.packet ≡ y.packet = ap packet_of same in
    let vlans : x.vlan ≡ y.vlan = vlan_tells x.vlan y.vlan (ap (λ l. head_or 0 (after_numbers l)) same) in
    (λ i. record { packet = packets i; vlan = vlans i })

-- packets decide before their headers
pub packets_decide : (x y : TaggedPacket) → is_before (numbers x.packet) (numbers y.packet) ≡ true → is_before (tagged_numbers x) (tagged_numbers y) ≡ true
packets_decide x y = by_piece (numbers x.packet) (numbers y.packet) (vlan_key x.vlan ∷ []) (vlan_key y.vlan ∷ []) refl

-- the numbers of a label
abbrev label_numbers : List ℕ → List ℕ
label_numbers label = map (λ v. v + 1) label ++ 0 ∷ []

-- labels decide before what follows them, since none begins another
labels_decide : (k l us vs : List ℕ) → is_before (label_numbers k) (label_numbers l) ≡ true → is_before (label_numbers k ++ us) (label_numbers l ++ vs) ≡ true
labels_decide [] [] us vs e = absurd (true≢false (sym e))
labels_decide [] (b ∷ l) us vs e = grind (arith, nat_tests)
labels_decide (a ∷ k) [] us vs e = absurd (grind (arith, nat_tests))
labels_decide (a ∷ k) (b ∷ l) us vs e = by (nat_lt (a + 1) (b + 1)) ((a + 1) == (b + 1)) (is_before (label_numbers k) (label_numbers l)) e
    (labels_decide k l us vs)
  where
    by : (c d f : Bool) → c || (d && f) ≡ true → (f ≡ true → is_before (label_numbers k ++ us) (label_numbers l ++ vs) ≡ true)
        → c || (d && is_before (label_numbers k ++ us) (label_numbers l ++ vs)) ≡ true
    by true d f e more = refl
    by false true f e more = more e
    by false false f e more = e

labels_tell : (k l us vs : List ℕ) → label_numbers k ++ us ≡ label_numbers l ++ vs → (k ≡ l) × (us ≡ vs)
labels_tell [] [] us vs e = (refl, ap rest_of e)
labels_tell [] (b ∷ l) us vs e = absurd (let is : 0 ≡ b + 1 = ap (head_or 0) e in omega arith)
labels_tell (a ∷ k) [] us vs e = absurd (let is : a + 1 ≡ 0 = ap (head_or 0) e in omega arith)
labels_tell (a ∷ k) (b ∷ l) us vs e =
    let is : a + 1 ≡ b + 1 = ap (head_or 0) e in
    let here : a ≡ b = omega arith in
    let more = labels_tell k l us vs (ap rest_of e) in
    (λ i. here i ∷ more.0 i, more.1)

-- instances decide before packets
pub instances_decide : (i j : Instance) (us vs : List ℕ) → is_before (instance_numbers i) (instance_numbers j) ≡ true
    → is_before (instance_numbers i ++ us) (instance_numbers j ++ vs) ≡ true
instances_decide i j us vs e =
    by (nat_lt i.query j.query) (i.query == j.query) (is_before (label_numbers i.label) (label_numbers j.label)) e
    (labels_decide i.label j.label us vs)
  where
    by : (c d f : Bool) → c || (d && f) ≡ true → (f ≡ true → is_before (label_numbers i.label ++ us) (label_numbers j.label ++ vs) ≡ true)
        → c || (d && is_before (label_numbers i.label ++ us) (label_numbers j.label ++ vs)) ≡ true
    by true d f e more = refl
    by false true f e more = more e
    by false false f e more = e

pub entries_tell : (d e : BucketEntry) → entry_numbers d ≡ entry_numbers e → d ≡ e
entries_tell d e same =
    let query : d.pair.query ≡ e.pair.query = ap (head_or 0) same in
    let more = labels_tell d.pair.label e.pair.label (numbers d.packet) (numbers e.packet) (ap rest_of same) in
    let packets = numbers_tell d.packet e.packet more.1 in
    (λ i. record { pair = record { query = query i; label = more.0 i }; packet = packets i })
