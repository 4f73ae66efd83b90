-- On each path of a tree that entries can stand for the match stays lawful.
use Rattle.std.proofs.Common.{◌≡◌, ◌≢◌, inl, inr, ℕ, ◌-◌, Bool, true, false, if◌then◌else◌, List, [], ◌∷◌, None, refl, sym, subst, ◌∙◌, true≢false}
use Rattle.std.proofs.lemmas.Bool.{cases_eq}
use Rattle.pq_fields.specs.declared.field.Field.{Field}
use Rattle.pq_fields.specs.declared.field.Field.TheVariants.{Switch, Port, EthType, IpProto, EthSrc, EthDst, Ipv4Src, Ipv4Dst, TcpSrc}
use Rattle.pq_fields.specs.declared.field.Field.TheVariants.{TcpDst, UdpSrc, UdpDst, Ipv6Src, Ipv6Dst}
use Rattle.pq_fields.specs.Packet.{rank, width_of}
use Rattle.pq_model.specs.MatchFields.{MatchFields, IsLawfulMatch}
use Rattle.pq_store.specs.declared.test.Test.{Test}
use Rattle.pq_store.specs.declared.test.Test.TheVariants.{Equal, Bit}
use Rattle.pq_store.specs.Test.{IsLawful, field_of}
use Rattle.pq_store.specs.Tree.{Tree, IsTested}
use Rattle.pq_store.specs.Tree.Tree.{Tip, Fork}
use Rattle.pq_store.specs.Diagram.{AllLawful, Ascends, AsksOnce}
use Rattle.pq_store.specs.Laws.{IsUntested, StandsBelow, and_prerequisite, is_prerequisite}
use Rattle.pq_store.proofs.Order.{before_tested, rank_injective}
use Rattle.pq_layout.specs.Entries.{failing, passing, vlan_match}
use Rattle.pq_layout.specs.Sound.{IsMatchable, TestsPorts}
use Rattle.pq_lookup.proofs.MaskedBits.{AreWhole}
use Rattle.pq_lookup.proofs.Views.{stated_number, other_number, same_number, no_number, no_bits}
use Rattle.pq_rules.specs.Found.{IsKeyWord}
use Rattle.pq_rules.specs.Paths.{StaysLawful}
use Rattle.pq_lookup.proofs.Fresh.{IsFresh, fresh_failing, fresh_passing, lawful_tested, others}
use Rattle.pq_rules.proofs.NeedsLemmas.{AllStated, IsPortTest, IsStated, Needs, lawful_bit, lawful_number, needs_met}

-- on the yes side of a test the match is lawful
lawful_passing : (s : Test) (m : MatchFields) → IsLawfulMatch m → IsLawful s → ((v : ℕ) → s ≡ Equal Port v → IsPortTest Port v)
    → IsFresh s m → Needs (field_of s) m → IsLawfulMatch (passing s m)
lawful_passing (Equal f v) m h lawful port fresh needs = lawful_number f v m h lawful.1 (by f port) fresh needs
  where
    by : (f : Field) → ((u : ℕ) → Equal f v ≡ Equal Port u → IsPortTest Port u) → IsPortTest f v
    by Switch port = tt
    by Port port = port v refl
    by EthType port = tt
    by IpProto port = tt
    by EthSrc port = tt
    by EthDst port = tt
    by Ipv4Src port = tt
    by Ipv4Dst port = tt
    by TcpSrc port = tt
    by TcpDst port = tt
    by UdpSrc port = tt
    by UdpDst port = tt
    by Ipv6Src port = tt
    by Ipv6Dst port = tt
lawful_passing (Bit f i) m h lawful port fresh needs = lawful_bit f i true m h lawful.1 fresh needs

-- and on the no side
lawful_failing : (s : Test) (m : MatchFields) → IsLawfulMatch m → IsLawful s → IsFresh s m → Needs (field_of s) m → IsLawfulMatch (failing s m)
lawful_failing (Equal f v) m h lawful fresh needs = h
lawful_failing (Bit f i) m h lawful fresh needs = lawful_bit f i false m h lawful.1 fresh needs

-- what is stated of prerequisites stays stated
still_passing : (s q : Test) (m : MatchFields) → IsLawful s → field_of s ≢ Switch → IsFresh s m → IsStated m q → IsStated (passing s m) q
still_passing s (Bit g j) m lawful other fresh stated = absurd stated
still_passing (Bit f i) (Equal g u) m lawful other fresh stated = (stated.0, same_number f g i true m ∙ stated.1)
still_passing (Equal f v) (Equal g u) m lawful other fresh stated = elim (cases_eq (rank f) (rank g)) [
  | inl same ↦ absurd (let one : f ≡ g = rank_injective f g same in let none : stated_number g m ≡ None =
      subst (λ h. stated_number h m ≡ None) one fresh in let some = stated.1 in cc)
  | inr apart ↦ (stated.0, other_number f g v m lawful.0 other apart ∙ stated.1)
]

still_failing : (s q : Test) (m : MatchFields) → IsStated m q → IsStated (failing s m) q
still_failing s (Bit g j) m stated = absurd stated
still_failing (Bit f i) (Equal g u) m stated = (stated.0, same_number f g i false m ∙ stated.1)
still_failing (Equal f v) (Equal g u) m stated = stated

all_passing : (s : Test) (m : MatchFields) (passed : List Test) → IsLawful s → field_of s ≢ Switch → IsFresh s m → AllStated m passed
    → AllStated (passing s m) passed
all_passing s m [] lawful other fresh stated = tt
all_passing s m (q ∷ qs) lawful other fresh stated = (still_passing s q m lawful other fresh stated.0, all_passing s m qs lawful other fresh stated.1)

all_failing : (s : Test) (m : MatchFields) (passed : List Test) → AllStated m passed → AllStated (failing s m) passed
all_failing s m [] stated = tt
all_failing s m (q ∷ qs) stated = (still_failing s q m stated.0, all_failing s m qs stated.1)

-- the number of a prerequisite that is passed is stated
own_stated : (s : Test) (m : MatchFields) → is_prerequisite s ≡ true → IsStated (passing s m) s
own_stated (Bit f i) m of = absurd (true≢false (sym of))
own_stated (Equal Switch v) m of = absurd (true≢false (sym of))
own_stated (Equal Port v) m of = absurd (true≢false (sym of))
own_stated (Equal EthType v) m of = (refl, refl)
own_stated (Equal IpProto v) m of = (refl, refl)
own_stated (Equal EthSrc v) m of = absurd (true≢false (sym of))
own_stated (Equal EthDst v) m of = absurd (true≢false (sym of))
own_stated (Equal Ipv4Src v) m of = absurd (true≢false (sym of))
own_stated (Equal Ipv4Dst v) m of = absurd (true≢false (sym of))
own_stated (Equal TcpSrc v) m of = absurd (true≢false (sym of))
own_stated (Equal TcpDst v) m of = absurd (true≢false (sym of))
own_stated (Equal UdpSrc v) m of = absurd (true≢false (sym of))
own_stated (Equal UdpDst v) m of = absurd (true≢false (sym of))
own_stated (Equal Ipv6Src v) m of = absurd (true≢false (sym of))
own_stated (Equal Ipv6Dst v) m of = absurd (true≢false (sym of))

all_stated : (s : Test) (m : MatchFields) (passed : List Test) → IsLawful s → field_of s ≢ Switch → IsFresh s m → AllStated m passed
    → AllStated (passing s m) (and_prerequisite s passed)
all_stated s m passed lawful other fresh stated = by (is_prerequisite s) refl
  where
    by : (b : Bool) → is_prerequisite s ≡ b → AllStated (passing s m) (if b then s ∷ passed else passed)
    by true of = (own_stated s m of, all_passing s m passed lawful other fresh stated)
    by false of = all_passing s m passed lawful other fresh stated

-- the match of a VLAN_VID word is lawful
pub word_lawful : (word : ℕ) → IsKeyWord word → IsLawfulMatch (vlan_match word)
word_lawful word h = record {
  in_port = tt;
  vlan = h;
  eth_type = tt;
  ip_proto = tt;
  eth_src = tt;
  eth_dst = tt;
  ipv4_src = tt;
  ipv4_dst = tt;
  tcp_src = tt;
  tcp_dst = tt;
  udp_src = tt;
  udp_dst = tt;
  ipv6_src = tt;
  ipv6_dst = tt;
}

module _ {L : Type 0} where
  -- a part of a tree that entries can stand for, below a match and the tests of prerequisites that are passed
  record Stands (passed : List Test) (m : MatchFields) (t : Tree L) : Type 0 where
    lawful : AllLawful t
    ascends : Ascends t
    once : AsksOnce t
    switch : IsUntested Switch t
    ports : TestsPorts t
    below : (f : Field) → StandsBelow f passed t
    fresh : (s : Test) → IsTested s t → IsFresh s m
    stated : AllStated m passed
    held : IsLawfulMatch m

  -- the match with the test at the root
  yes_held : (passed : List Test) (m : MatchFields) (s : Test) (y n : Tree L) → Stands passed m (Fork s y n) → IsLawfulMatch (passing s m)
  yes_held passed m s y n h =
      lawful_passing s m h.held h.lawful.0 (λ v is. h.ports v (inl (sym is))) (h.fresh s (inl refl))
      (needs_met (field_of s) m passed h.held h.stated ((h.below (field_of s)).0 refl))

  no_held : (passed : List Test) (m : MatchFields) (s : Test) (y n : Tree L) → Stands passed m (Fork s y n) → IsLawfulMatch (failing s m)
  no_held passed m s y n h =
      lawful_failing s m h.held h.lawful.0 (h.fresh s (inl refl)) (needs_met (field_of s) m passed h.held h.stated ((h.below (field_of s)).0 refl))

  stands_yes : (passed : List Test) (m : MatchFields) (s : Test) (y n : Tree L) → Stands passed m (Fork s y n)
      → Stands (and_prerequisite s passed) (passing s m) y
  stands_yes passed m s y n h = record {
    lawful = h.lawful.1;
    ascends = h.ascends.2;
    once = h.once.1;
    switch = λ r tested. h.switch r (inr (inl tested));
    ports = λ v tested. h.ports v (inr (inl tested));
    below = λ f. (h.below f).1;
    fresh = λ r tested. fresh_passing s r m h.lawful.0 (lawful_tested r y h.lawful.1 tested) (h.switch s (inl refl))
        (before_tested s r y h.ascends.0 h.ascends.2 tested)
        (others s r y h.once.0 tested) (h.fresh s (inl refl)) (h.fresh r (inr (inl tested)));
    stated = all_stated s m passed h.lawful.0 (h.switch s (inl refl)) (h.fresh s (inl refl)) h.stated;
    held = yes_held passed m s y n h;
  }

  stands_no : (passed : List Test) (m : MatchFields) (s : Test) (y n : Tree L) → Stands passed m (Fork s y n) → Stands passed (failing s m) n
  stands_no passed m s y n h = record {
    lawful = h.lawful.2;
    ascends = h.ascends.3;
    once = h.once.2;
    switch = λ r tested. h.switch r (inr (inr tested));
    ports = λ v tested. h.ports v (inr (inr tested));
    below = λ f. (h.below f).2;
    fresh = λ r tested. fresh_failing s r m h.lawful.0 (lawful_tested r n h.lawful.2 tested)
        (before_tested s r n h.ascends.1 h.ascends.3 tested) (h.fresh s (inl refl)) (h.fresh r (inr (inr tested)));
    stated = all_failing s m passed h.stated;
    held = no_held passed m s y n h;
  }

  stays : (t : Tree L) (passed : List Test) (m : MatchFields) → Stands passed m t → StaysLawful m t
  stays (Tip l) passed m h = tt
  stays (Fork s y n) passed m h = (
    h.lawful.0,
    yes_held passed m s y n h,
    no_held passed m s y n h,
    stays y (and_prerequisite s passed) (passing s m) (stands_yes passed m s y n h),
    stays n passed (failing s m)
        (stands_no passed m s y n h),
  )

  -- on the paths of such a tree the match of a VLAN_VID word stays lawful
  pub stays_lawful : (word : ℕ) (t : Tree L) → IsKeyWord word → IsMatchable t → StaysLawful (vlan_match word) t
  stays_lawful word t known h = stays t [] (vlan_match word) (record {
    lawful = h.diagram.lawful;
    ascends = h.diagram.ascends;
    once = h.diagram.asks_once;
    switch = h.switch;
    ports = h.ports;
    below = h.prerequisites;
    fresh = λ s tested. asks_new s;
    stated = tt;
    held = word_lawful word known;
  })
    where
      asks_new : (s : Test) → IsFresh s (vlan_match word)
      asks_new (Equal f v) = no_number f word
      asks_new (Bit f i) = subst (AreWhole (width_of f - i)) (sym (no_bits f word)) tt
