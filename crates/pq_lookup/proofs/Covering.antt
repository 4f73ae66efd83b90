-- The first match of a tree's entries that covers a packet has the leaf that the packet reaches.
use Rattle.std.proofs.Common.{◌≡◌, ◌≢◌, inl, inr, ℕ, ◌-◌, Bool, true, false, not, if◌then◌else◌, List, [], ◌∷◌, ◌++◌, Some, None, refl, sym, ap, subst, ◌∙◌}
use Rattle.std.specs.Prelude.{◌&&◌}
use Rattle.std.specs.declared.option.Option.{Option}
use Rattle.std.proofs.lemmas.Bool.{eq-eqb, ne_eqb, and_left}
use Rattle.pq_fields.specs.declared.field.Field.TheVariants.{Switch}
use Rattle.pq_fields.specs.Packet.{bit_in, width_of}
use Rattle.pq_model.specs.MatchFields.{MatchFields, covers, vlan_word}
use Rattle.pq_model.specs.Tagged.{TaggedPacket}
use Rattle.pq_store.specs.declared.test.Test.{Test}
use Rattle.pq_store.specs.declared.test.Test.TheVariants.{Equal, Bit}
use Rattle.pq_store.specs.Test.{IsLawful, field_of, passes}
use Rattle.pq_store.specs.Tree.{Tree, value, IsTested}
use Rattle.pq_store.specs.Tree.Tree.{Tip, Fork}
use Rattle.pq_store.specs.Diagram.{AllLawful, Ascends, AsksOnce}
use Rattle.pq_store.specs.Laws.{IsUntested}
use Rattle.pq_store.proofs.Order.{before_tested}
use Rattle.pq_layout.specs.Entries.{passing, failing, matches_below, vlan_match}
use Rattle.pq_layout.specs.Sound.{IsMatchable}
use Rattle.pq_lookup.specs.Lookup.{EntriesAnswer, EntriesPassOver, first_covering}
use Rattle.pq_lookup.proofs.Fresh.{IsFresh, fresh_failing, fresh_passing, lawful_tested, others}
use Rattle.pq_lookup.proofs.MaskedBits.{AreWhole}
use Rattle.pq_lookup.proofs.Views.{covers-number, covers-bit, number_vlan, bit_vlan}
use Rattle.pq_lookup.proofs.Views.{no_number, no_bits, covers-vlan}

-- the packets that a match covers on a side of a test

passing-covers : (t : Test) (m : MatchFields) (x : TaggedPacket) → IsLawful t → field_of t ≢ Switch → IsFresh t m
    → covers (passing t m) x ≡ covers m x && passes t x.packet
passing-covers (Equal f v) m x lawful numbered fresh = covers-number m x f v lawful.0 numbered fresh
passing-covers (Bit f i) m x lawful numbered fresh = covers-bit m x f i true lawful.0 lawful.1 fresh

and_not : (b p : Bool) → p ≡ false → b && not p ≡ b
and_not true p miss = ap not miss
and_not false p miss = refl

failing-covers : (t : Test) (m : MatchFields) (x : TaggedPacket) → IsLawful t → IsFresh t m → passes t x.packet ≡ false → covers (failing t m) x ≡ covers m x
failing-covers (Equal f v) m x lawful fresh miss = refl
failing-covers (Bit f i) m x lawful fresh miss = covers-bit m x f i false lawful.0 lawful.1 fresh ∙ and_not (covers m x) (bit_in f i x.packet) miss

failing-leaves : (t : Test) (m : MatchFields) (x : TaggedPacket) → IsLawful t → IsFresh t m → covers m x ≡ false → covers (failing t m) x ≡ false
failing-leaves (Equal f v) m x lawful fresh miss = miss
failing-leaves (Bit f i) m x lawful fresh miss = covers-bit m x f i false lawful.0 lawful.1 fresh ∙ and_left (covers m x) (not (bit_in f i x.packet)) miss

passing-vlan : (t : Test) (m : MatchFields) → (passing t m).vlan ≡ m.vlan
passing-vlan (Equal f v) m = number_vlan f v m
passing-vlan (Bit f i) m = bit_vlan f i true m

failing-vlan : (t : Test) (m : MatchFields) → (failing t m).vlan ≡ m.vlan
failing-vlan (Equal f v) m = refl
failing-vlan (Bit f i) m = bit_vlan f i false m

module _ {L : Type 0} where
  -- what a tree needs below a match: it has the tests of a diagram, none of the switch, and asks what isn't stated
  record Stands (m : MatchFields) (t : Tree L) : Type 0 where
    lawful : AllLawful t
    ascends : Ascends t
    once : AsksOnce t
    switch : IsUntested Switch t
    fresh : (s : Test) → IsTested s t → IsFresh s m

  stands-yes : (m : MatchFields) (s : Test) (y n : Tree L) → Stands m (Fork s y n) → Stands (passing s m) y
  stands-yes m s y n h = record {
    lawful = h.lawful.1;
    ascends = h.ascends.2;
    once = h.once.1;
    switch = λ r tested. h.switch r (inr (inl tested));
    fresh = λ r tested. fresh_passing s r m h.lawful.0 (lawful_tested r y h.lawful.1 tested) (h.switch s (inl refl))
        (before_tested s r y h.ascends.0 h.ascends.2 tested) (others s r y h.once.0 tested)
        (h.fresh s (inl refl)) (h.fresh r (inr (inl tested)));
  }

  stands-no : (m : MatchFields) (s : Test) (y n : Tree L) → Stands m (Fork s y n) → Stands (failing s m) n
  stands-no m s y n h = record {
    lawful = h.lawful.2;
    ascends = h.ascends.3;
    once = h.once.2;
    switch = λ r tested. h.switch r (inr (inr tested));
    fresh = λ r tested. fresh_failing s r m h.lawful.0 (lawful_tested r n h.lawful.2 tested)
        (before_tested s r n h.ascends.1 h.ascends.3 tested) (h.fresh s (inl refl)) (h.fresh r (inr (inr tested)));
  }

  module _ (x : TaggedPacket) where
    pub first-some : (es fs : List (MatchFields × L)) (e : MatchFields × L) → first_covering x es ≡ Some e → first_covering x (es ++ fs) ≡ Some e
    first-some [] fs e h = cc
    first-some (d ∷ es) fs e h = by (covers d.0 x) h (first-some es fs e)
      where
        by : (b : Bool) → (if b then Some d else first_covering x es) ≡ Some e → (first_covering x es ≡ Some e → first_covering x (es ++ fs) ≡ Some e) →
            (if b then Some d else first_covering x (es ++ fs)) ≡ Some e
        by true g more = g
        by false g more = more g

    pub first-none : (es fs : List (MatchFields × L)) → first_covering x es ≡ None → first_covering x (es ++ fs) ≡ first_covering x fs
    first-none [] fs h = refl
    first-none (d ∷ es) fs h = by (covers d.0 x) h (first-none es fs)
      where
        by : (b : Bool) → (if b then Some d else first_covering x es) ≡ None
            → (first_covering x es ≡ None → first_covering x (es ++ fs) ≡ first_covering x fs) →
            (if b then Some d else first_covering x (es ++ fs)) ≡ first_covering x fs
        by true g more = cc
        by false g more = more g

    -- the first covering match has this leaf and this VLAN_VID word, or there is none
    abbrev Tells : Bool → List (MatchFields × L) → L → Option ℕ → Type 0
    Tells true es l v = (m : MatchFields) × (first_covering x es ≡ Some (m, l)) × (m.vlan ≡ v)
    Tells false es l v = first_covering x es ≡ None

    -- yes side first
    joined : (b p : Bool) (es fs : List (MatchFields × L)) (l k : L) (v : Option ℕ) → Tells (b && p) es l v → (p ≡ false → Tells b fs k v)
        → (b ≡ false → Tells b fs k v) →
        Tells b (es ++ fs) (if p then l else k) v
    joined true true es fs l k v first second none = (first.0, first-some es fs (first.0, l) first.1, first.2)
    joined true false es fs l k v first second none = let found = second refl in (found.0, first-none es fs first ∙ found.1, found.2)
    joined false p es fs l k v first second none = first-none es fs first ∙ none refl

    -- of what is below a match, the first that covers the packet tells the leaf that it reaches
    tells : (t : Tree L) (m : MatchFields) → Stands m t → (b : Bool) → covers m x ≡ b → Tells b (matches_below m t) (value t x.packet) m.vlan
    tells (Tip l) m h true c = (m, ap (λ b. if b then Some (m, l) else None) c, refl)
    tells (Tip l) m h false c = ap (λ b. if b then Some (m, l) else None) c
    tells (Fork s y n) m h b c =
        let lawful = h.lawful.0 in
        let fresh = h.fresh s (inl refl) in
        let down = passing-covers s m x lawful (h.switch s (inl refl)) fresh ∙ ap (λ a. a && passes s x.packet) c in
        let in_yes = tells y (passing s m) (stands-yes m s y n h) (b && passes s x.packet) down in
        let in_no = tells n (failing s m) (stands-no m s y n h) b in
        joined b (passes s x.packet) (matches_below (passing s m) y) (matches_below (failing s m) n) (value y x.packet) (value n x.packet) m.vlan
        (subst (Tells (b && passes s x.packet) (matches_below (passing s m) y) (value y x.packet)) (passing-vlan s m) in_yes)
        (λ miss. subst (Tells b (matches_below (failing s m) n) (value n x.packet)) (failing-vlan s m) (in_no (failing-covers s m x lawful fresh miss ∙ c)))
        (λ none. subst (Tells b (matches_below (failing s m) n) (value n x.packet)) (failing-vlan s m)
        (in_no (failing-leaves s m x lawful fresh (c ∙ none) ∙ sym none)))

  -- a tree is below the match of its VLAN_VID word
  stands : (word : ℕ) (t : Tree L) → IsMatchable t → Stands (vlan_match word) t
  stands word t h = record {
    lawful = h.diagram.lawful;
    ascends = h.diagram.ascends;
    once = h.diagram.asks_once;
    switch = h.switch;
    fresh = λ s tested. asks_new s;
  }
    where
      asks_new : (s : Test) → IsFresh s (vlan_match word)
      asks_new (Equal f v) = no_number f word
      asks_new (Bit f i) = subst (AreWhole (width_of f - i)) (sym (no_bits f word)) tt

  pub entries-answer : EntriesAnswer L
  entries-answer t word x h same = tells x t (vlan_match word) (stands word t h) true (covers-vlan word x ∙ eq-eqb (vlan_word x.vlan) word same)

  pub entries-pass_over : EntriesPassOver L
  entries-pass_over t word x h other = tells x t (vlan_match word) (stands word t h) false (covers-vlan word x ∙ ne_eqb (vlan_word x.vlan) word other)
