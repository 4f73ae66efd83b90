-- A search step by step: a node's sides are visited in the order of their first packets.
use Rattle.std.proofs.Common.{◌≡◌, ℕ, suc, ◌+◌, ◌-◌, ◌^◌, ◌<◌, ◌≤◌, inl, inr, Bool, true, false, if◌then◌else◌, List, [], ◌++◌, Option}
use Rattle.std.proofs.Common.{Some, None, length, set, refl, sym, ap, subst, ◌∙◌, append_assoc, arith}
use Rattle.std.specs.Prelude.{slice_get, IfSome}
use Rattle.std.specs.List.{All}
use Rattle.std.proofs.Math.Nat.{div-one, div-eq_of_lt, mod-eq_of_lt}
use Rattle.std.proofs.lemmas.Bool.Decides.{eqb_tells}
use Rattle.std.proofs.lemmas.List.{append-nil}
use Rattle.std.proofs.lemmas.List.Elements.{All-append, All-weaker, All-nil}
use Rattle.pq_fields.specs.declared.field.Field.{Field}
use Rattle.pq_fields.specs.Packet.{Numbers, Fit, number_in, bit_in, rank, width_of, with_number}
use Rattle.pq_store.specs.declared.test.Test.TheVariants.{Equal, Bit}
use Rattle.pq_store.specs.declared.least.Least.{Least}
use Rattle.pq_store.specs.Tree.{Tree, value, rest}
use Rattle.pq_store.specs.Tree.Tree.{Fork}
use Rattle.pq_store.specs.Diagram.{IsDiagram}
use Rattle.pq_store.specs.Least.{precedes}
use Rattle.pq_store.specs.Search.{Agrees, IsClear, Shares, Begins, AsksFrom, Reaching, IsFound, AreFound, IsSound, IsReady, Leads}
use Rattle.pq_store.specs.Search.{LeadsFrom, IsSearched, Visits, IsGap, VisitsFrom, begins, raised}
use Rattle.pq_store.proofs.LeastFound.{found_more, found_same, fork_found, sound_marked}
use Rattle.pq_fields.proofs.Fitting.{number_fits}
use Rattle.pq_store.proofs.PrefixNumbers.{with_own, number_with, agrees_back, precedes_with, precedes_between, precedes_more}
use Rattle.pq_store.proofs.PrefixBits.{bit_set, clear_shares, set_shares, before_set, earlier_set, shared_set}
use Rattle.pq_store.proofs.PrefixSpans.{Inside, narrows, side_of_bit, yes_of_number, no_of_number, rest_inside, value_rest, rest_same}

-- a packet that shares a whole number has it
shares_whole : (f : Field) (m : ℕ) (x p : Numbers) → Shares f 1 x (with_number f m p) → Agrees f x p × (number_in f x ≡ m)
shares_whole f m x p same = (agrees_back f m x p same.0, sym (div-one (number_in f x)) ∙ same.1 ∙ div-one (number_in f (with_number f m p)) ∙ number_with f m p)

module _ {L : Type 0} (ts : List (Tree L)) (root : Tree L) where
  -- nothing is left to find where all leaves are found
  pub nothing_left : (t : Tree L) (kind : Numbers → Type 0) (found : List Least) (seen : List Bool) → AreFound ts found t
      → IsSound ts root found seen → IsSearched ts root t kind found found seen
  nothing_left t kind found seen all sound = record {
    more = [];
    grown = sym (append-nil found);
    kinds = All-nil (λ e. Fit e.packet × kind e.packet);
    all = all;
    sound = sound;
  }

  module _ (t : Tree L) (kind : Numbers → Type 0) (old mid : List Least) (seen : List Bool) (a : IsSearched ts root t kind old mid seen) where
    -- what was found before a visit is found after it
    found_later : (u : Tree L) (x : Numbers) → IsFound ts old u x → IsFound ts mid u x
    found_later u x h = subst (λ found. IsFound ts found u x) (sym a.grown) (found_more ts old a.more u x h)

    -- two visits are one
    then_searched : (u w : Tree L) (kind2 whole : Numbers → Type 0) (new : List Least) (seen2 seen3 : List Bool)
        → IsSearched ts root u kind2 mid new seen2 → ((x : Numbers) → Fit x → kind x → whole x)
        → ((x : Numbers) → Fit x → kind2 x → whole x) → AreFound ts new w → IsSound ts root new seen3
        → IsSearched ts root w whole old new seen3
    then_searched u w kind2 whole new seen2 seen3 b first second all sound = record {
      more = a.more ++ b.more;
      grown = b.grown ∙ ap (λ found. found ++ b.more) a.grown ∙ append_assoc old a.more b.more;
      kinds = All-append (λ e. Fit e.packet × whole e.packet) a.more b.more
          (All-weaker (λ e. Fit e.packet × kind e.packet) (λ e. Fit e.packet × whole e.packet) (λ e h. (h.0, first e.packet h.0 h.1)) a.more a.kinds)
          (All-weaker (λ e. Fit e.packet × kind2 e.packet) (λ e. Fit e.packet × whole e.packet) (λ e h. (h.0, second e.packet h.0 h.1)) b.more b.kinds);
      all = all;
      sound = sound;
    }

    -- after a visit all may be ready for a later packet
    ready_later : (p q : Numbers) → IsReady ts root old p → ((x : Numbers) → Fit x → precedes x q ≡ true → IsFound ts mid root x)
        → ((x : Numbers) → precedes x p ≡ true → precedes x q ≡ true) → ((x : Numbers) → kind x → precedes x q ≡ true)
        → IsReady ts root mid q
    ready_later p q ready covered earlier between = record {
      covered = covered;
      behind = subst (λ found. All (λ e. precedes e.packet q ≡ true) found) (sym a.grown) (All-append (λ e. precedes e.packet q ≡ true) old a.more
          (All-weaker (λ e. precedes e.packet p ≡ true) (λ e. precedes e.packet q ≡ true) (λ e h. earlier e.packet h) old ready.behind)
          (All-weaker (λ e. Fit e.packet × kind e.packet) (λ e. precedes e.packet q ≡ true) (λ e h. between e.packet h.1) a.more a.kinds));
    }

  -- a test of a bit: the no side, and then the yes side
  pub bit_searched : (f : Field) (i : ℕ) (y n : Tree L) (p : Numbers) (k : ℕ) (old mid new : List Least) (before middle after : List Bool)
      → slice_get ts k ≡ Some (Fork (Bit f i) y n) → k < length after → IsDiagram (Fork (Bit f i) y n) → (within : i < width_of f)
      → (first : Begins f (2 ^ (width_of f - i)) p) → IsSound ts root old before → IsReady ts root old p → Leads root (Fork (Bit f i) y n) p
      → Visits ts n p old before mid middle → Visits ts y (with_number f (number_in f p + 2 ^ (width_of f - 1 - i)) p) mid middle new after
      → IsSearched ts root (Fork (Bit f i) y n) (λ x. Reaching (Fork (Bit f i) y n) x p) old new (set after k true)
  bit_searched f i y n p k old mid new before middle after is marks diagram within first sound ready leads visit_no visit_yes =
      let inside_no : Inside f (2 ^ (width_of f - 1 - i)) n = side_of_bit f i n diagram.lawful.0 diagram.lawful.2 diagram.ascends.1 in
      let inside_yes : Inside f (2 ^ (width_of f - 1 - i)) y = side_of_bit f i y diagram.lawful.0 diagram.lawful.1 diagram.ascends.0 in
      let on_no : (x : Numbers) → Fit x → Shares f (2 ^ (width_of f - 1 - i)) x p → value root x ≡ value n x = λ x fit same.
      let s = clear_shares f i p within first x same in
      leads x fit s.0 ∙ ap (λ b. if b then value y x else value n x) s.1 in
      let a = visit_no root sound ready (λ x fit reach. on_no x fit (narrows f (2 ^ (width_of f - 1 - i)) n x p inside_no reach)) in
      let ready_yes = ready_later n (λ x. Reaching n x p) old mid middle a p (bit_set f i p within first) ready
      (λ x fit earlier. elim (before_set f i p within first x earlier) [
        | inl h ↦ found_later n (λ x. Reaching n x p) old mid middle a root x (ready.covered x fit h)
        | inr h ↦ found_same ts mid root n x (on_no x fit h) (a.all x fit)
      ])
      (λ x h. earlier_set f i p within first x h)
      (λ x h. shared_set f i p within first x (narrows f (2 ^ (width_of f - 1 - i)) n x p inside_no h)) in
      let wide_yes : (x : Numbers) → Reaching y x (bit_set f i p within first)
      → Shares f (2 ^ (width_of f - i)) x p × (bit_in f i x ≡ true) =
      λ x reach. set_shares f i p within first x
      (narrows f (2 ^ (width_of f - 1 - i)) y x (bit_set f i p within first) inside_yes reach) in
      let b = visit_yes root a.sound ready_yes (λ x fit reach. let s = wide_yes x reach in leads x fit s.0
      ∙ ap (λ b. if b then value y x else value n x) s.1) in
      let all : AreFound ts new (Fork (Bit f i) y n) =
      fork_found ts new (Bit f i) y n b.all (λ x fit. found_later y (λ x. Reaching y x (bit_set f i p within first)) mid new after b n x
      (a.all x fit)) in
      then_searched n (λ x. Reaching n x p) old mid middle a y (Fork (Bit f i) y n) (λ x. Reaching y x (bit_set f i p within first))
      (λ x. Reaching (Fork (Bit f i) y n) x p) new after (set after k true) b
      (λ x fit reach. (clear_shares f i p within first x (narrows f (2 ^ (width_of f - 1 - i)) n x p inside_no reach)).0)
      (λ x fit reach. (wide_yes x reach).0)
      all
      (sound_marked ts root new after k (Fork (Bit f i) y n) marks is all b.sound)

  module _ (f : Field) (v : ℕ) (y n : Tree L) (p : Numbers) (diagram : IsDiagram (Fork (Equal f v) y n)) (clear : IsClear f p) where
    -- a packet with the number reaches the yes side
    has_number : (x : Numbers) → number_in f x ≡ v → value (Fork (Equal f v) y n) x ≡ value y x
    has_number x same = elim (eqb_tells (number_in f x) v) [ inl h ↦ ap (λ b. if b then value y x else value n x) h.0 | inr h ↦ absurd (h.1 same) ]

    -- a packet with another number reaches the no side
    has_other : (x : Numbers) → (number_in f x ≡ v → ⊥) → value (Fork (Equal f v) y n) x ≡ value n x
    has_other x other = elim (eqb_tells (number_in f x) v) [ inl h ↦ absurd (other h.1) | inr h ↦ ap (λ b. if b then value y x else value n x) h.0 ]

    -- where what is after the numbers is found, all is found before the packet with the number
    value_covered : (from : ℕ) (found : List Least) → AreFound ts found (rest f (Fork (Equal f v) y n))
        → ((x : Numbers) → Fit x → precedes x (with_number f from p) ≡ true → IsFound ts found root x)
        → LeadsFrom root (Fork (Equal f v) y n) f from p → (x : Numbers) → Fit x → precedes x (with_number f v p) ≡ true
        → IsFound ts found root x
    value_covered from found behind covered leads x fit before = elim (precedes_between f from v x p clear before) [
      | inl h ↦ covered x fit h
      | inr h ↦ found_same ts found root (rest f (Fork (Equal f v) y n)) x
          (leads x fit h.0 h.1 ∙ value_rest f v (Fork (Equal f v) y n) x (inr (refl, omega arith)) diagram.lawful diagram.ascends h.2)
          (behind x fit)
    ]

    -- what is after the numbers asks of later fields
    rest_within : Inside f 1 (rest f (Fork (Equal f v) y n))
    rest_within = rest_inside f v (Fork (Equal f v) y n) (inr (refl, omega arith)) diagram.lawful diagram.ascends

    -- so does the yes side
    yes_within : Inside f 1 y
    yes_within = yes_of_number f v y diagram.lawful.0 diagram.lawful.1 diagram.ascends.0 diagram.asks_once.0

    -- the numbers before this one are searched: it is visited, and then the later ones
    value_searched : (gap : Option ℕ) (k : ℕ) (old mid new : List Least) (before middle after : List Bool)
        → slice_get ts k ≡ Some (Fork (Equal f v) y n) → k < length after
        → (IsSearched ts root y (λ x. Reaching y x (with_number f v p)) old mid middle → IsGap ts (rest f n) mid gap (suc v))
        → IsSound ts root old before → IsReady ts root old (with_number f v p) → LeadsFrom root (Fork (Equal f v) y n) f v p
        → Visits ts y (with_number f v p) old before mid middle → VisitsFrom ts n f gap p mid middle new after
        → IsSearched ts root (Fork (Equal f v) y n) (λ x. Agrees f x p) old new (set after k true)
    value_searched gap k old mid new before middle after is marks at_gap sound ready leads visit_yes visit_no =
        let on_yes : (x : Numbers) → Reaching y x (with_number f v p) → Agrees f x p × (number_in f x ≡ v) =
        λ x reach. shares_whole f v x p (narrows f 1 y x (with_number f v p) yes_within reach) in
        let b = visit_yes root sound ready (λ x fit reach. let s = on_yes x reach in leads x fit s.0 (omega (arith, s.1)) ∙ has_number x s.1) in
        let ready_no = ready_later y (λ x. Reaching y x (with_number f v p)) old mid middle b (with_number f v p) (with_number f (suc v) p) ready
        (λ x fit earlier. elim (precedes_between f v (suc v) x p clear earlier) [
          | inl h ↦ found_later y (λ x. Reaching y x (with_number f v p)) old mid middle b root x (ready.covered x fit h)
          | inr h ↦ found_same ts mid root y x (leads x fit h.0 h.1 ∙ has_number x (omega (arith, h.1, h.2))) (b.all x fit)
        ])
        (λ x h. precedes_more f v (suc v) x p (omega arith) h)
        (λ x h. let s = on_yes x h in precedes_with f (suc v) x p s.0 (omega (arith, s.1))) in
        let c = visit_no root (suc v) (no_of_number f v n diagram.lawful.0 diagram.lawful.2 diagram.ascends.1) (at_gap b) b.sound ready_no
        (λ x fit same more. leads x fit same (omega arith) ∙ has_other x (λ e. omega arith)) in
        let all : AreFound ts new (Fork (Equal f v) y n) =
        fork_found ts new (Equal f v) y n (λ x fit. found_later n (λ x. Agrees f x p) mid new after c y x (b.all x fit)) c.all in
        then_searched y (λ x. Reaching y x (with_number f v p)) old mid middle b n (Fork (Equal f v) y n) (λ x. Agrees f x p)
        (λ x. Agrees f x p) new after (set after k true) c
        (λ x fit reach. (on_yes x reach).0)
        (λ x fit same. same)
        all
        (sound_marked ts root new after k (Fork (Equal f v) y n) marks is all c.sound)

    -- after the test's own number is what is after those of its no side
    rest_of_own : rest f (Fork (Equal f v) y n) ≡ rest f n
    rest_of_own = elim (eqb_tells (rank f) (rank f)) [ inl h ↦ ap (λ b. if b then rest f n else Fork (Equal f v) y n) h.0 | inr h ↦ absurd (h.1 refl) ]

    -- what is after the numbers stays found while the yes side is visited
    rest_later : (old mid : List Least) (seen : List Bool) → IsSearched ts root y (λ x. Reaching y x (with_number f v p)) old mid seen
        → AreFound ts old (rest f (Fork (Equal f v) y n)) → AreFound ts mid (rest f n)
    rest_later old mid seen b behind x fit = found_later y (λ x. Reaching y x (with_number f v p)) old mid seen b (rest f n) x
        (subst (λ t. IsFound ts old t x) rest_of_own (behind x fit))

    -- a number before the test's own is untested: what is after the numbers is visited with it first
    pub gap_searched : (free : ℕ) (k : ℕ) (old first mid new : List Least) (before begun middle after : List Bool) → free < v
        → slice_get ts k ≡ Some (Fork (Equal f v) y n) → k < length after
        → Visits ts (rest f (Fork (Equal f v) y n)) (with_number f free p) old before first begun
        → Visits ts y (with_number f v p) first begun mid middle → VisitsFrom ts n f None p mid middle new after → (from : ℕ)
        → IsGap ts (rest f (Fork (Equal f v) y n)) old (Some free) from → IsSound ts root old before
        → IsReady ts root old (with_number f from p) → LeadsFrom root (Fork (Equal f v) y n) f from p
        → IsSearched ts root (Fork (Equal f v) y n) (λ x. Agrees f x p) old new (set after k true)
    gap_searched free k old first mid new before begun middle after less is marks visit_rest visit_yes visit_no from own sound ready leads =
        let ready_free : IsReady ts root old (with_number f free p) = subst (λ m. IsReady ts root old (with_number f m p)) (sym own) ready in
        let on_rest : (x : Numbers) → Reaching (rest f (Fork (Equal f v) y n)) x (with_number f free p)
        → Agrees f x p × (number_in f x ≡ free) =
        λ x reach. shares_whole f free x p (narrows f 1 (rest f (Fork (Equal f v) y n)) x (with_number f free p) rest_within reach) in
        let a = visit_rest root sound ready_free (λ x fit reach. let s = on_rest x reach in leads x fit s.0 (omega (arith, own, s.1))
        ∙ value_rest f v (Fork (Equal f v) y n) x (inr (refl, omega arith)) diagram.lawful diagram.ascends (omega (arith, s.1))) in
        let ready_value = ready_later (rest f (Fork (Equal f v) y n))
        (λ x. Reaching (rest f (Fork (Equal f v) y n)) x (with_number f free p)) old first begun a (with_number f free p)
        (with_number f v p) ready_free
        (value_covered free first a.all
        (λ x fit h. found_later (rest f (Fork (Equal f v) y n)) (λ x. Reaching (rest f (Fork (Equal f v) y n)) x (with_number f free p))
        old first begun a root x (ready_free.covered x fit h)) (λ x fit same more. leads x fit same (omega (arith, own))))
        (λ x h. precedes_more f free v x p (omega arith) h)
        (λ x h. let s = on_rest x h in precedes_with f v x p s.0 (omega (arith, s.1))) in
        let more = value_searched None k first mid new begun middle after is marks
        (λ b. rest_later first mid middle b a.all) a.sound ready_value
        (λ x fit same more. leads x fit same (omega (arith, own))) visit_yes visit_no in
        then_searched (rest f (Fork (Equal f v) y n)) (λ x. Reaching (rest f (Fork (Equal f v) y n)) x (with_number f free p)) old first
        begun a (Fork (Equal f v) y n) (Fork (Equal f v) y n) (λ x. Agrees f x p) (λ x. Agrees f x p) new (set after k true)
        (set after k true) more
        (λ x fit reach. (on_rest x reach).0)
        (λ x fit same. same)
        more.all
        more.sound

    -- no number before the test's own is untested, or what is after the numbers is found
    pub next_searched : (gap : Option ℕ) (k : ℕ) (old mid new : List Least) (before middle after : List Bool)
        → IfSome gap (λ free. v ≤ free) → slice_get ts k ≡ Some (Fork (Equal f v) y n) → k < length after
        → Visits ts y (with_number f v p) old before mid middle → VisitsFrom ts n f (raised gap) p mid middle new after → (from : ℕ)
        → AsksFrom f from (Fork (Equal f v) y n) → IsGap ts (rest f (Fork (Equal f v) y n)) old gap from → IsSound ts root old before
        → IsReady ts root old (with_number f from p) → LeadsFrom root (Fork (Equal f v) y n) f from p
        → IsSearched ts root (Fork (Equal f v) y n) (λ x. Agrees f x p) old new (set after k true)
    next_searched (Some free) k old mid new before middle after none is marks visit_yes visit_no from asks own sound ready leads =
        let here : from ≡ v = elim asks [ inl later ↦ absurd (omega arith) | inr same ↦ omega (arith, own, same.1) ] in
        value_searched (Some (free + 1)) k old mid new before middle after is marks (λ b. omega (arith, own, here)) sound
        (subst (λ m. IsReady ts root old (with_number f m p)) here ready)
        (λ x fit same more. leads x fit same (omega (arith, here)))
        visit_yes visit_no
    next_searched None k old mid new before middle after none is marks visit_yes visit_no from asks own sound ready leads =
        let less : from ≤ v = elim asks [ inl later ↦ absurd (omega arith) | inr same ↦ same.1 ] in
        value_searched None k old mid new before middle after is marks (λ b. rest_later old mid middle b own) sound
        (record {
          covered = value_covered from old own ready.covered leads;
          behind = All-weaker (λ e. precedes e.packet (with_number f from p) ≡ true) (λ e. precedes e.packet (with_number f v p) ≡ true)
              (λ e h. precedes_more f from v e.packet p less h) old ready.behind;
        })
        (λ x fit same more. leads x fit same (omega (arith, less)))
        visit_yes visit_no

  -- after the field's numbers what is there is visited with the number that is untested
  pub last_searched : (f : Field) (t : Tree L) (p : Numbers) (free : ℕ) (old new : List Least) (before after : List Bool)
      → begins f t ≡ false → IsDiagram t → Visits ts t (with_number f free p) old before new after → (from : ℕ) → AsksFrom f from t
      → IsGap ts (rest f t) old (Some free) from → IsSound ts root old before → IsReady ts root old (with_number f from p)
      → LeadsFrom root t f from p → IsSearched ts root t (λ x. Agrees f x p) old new after
  last_searched f t p free old new before after other diagram visit from asks own sound ready leads =
      let inside : Inside f 1 t = subst (λ u. Inside f 1 u) (rest_same f t other) (rest_inside f from t asks diagram.lawful diagram.ascends) in
      let on_it : (x : Numbers) → Reaching t x (with_number f free p) → Agrees f x p × (number_in f x ≡ free) =
      λ x reach. shares_whole f free x p (narrows f 1 t x (with_number f free p) inside reach) in
      let a = visit root sound (subst (λ m. IsReady ts root old (with_number f m p)) (sym own) ready) (λ x fit reach. let s =
      on_it x reach in leads x fit s.0 (omega (arith, own, s.1))) in
      record {
        more = a.more;
        grown = a.grown;
        kinds = All-weaker (λ e. Fit e.packet × Reaching t e.packet (with_number f free p)) (λ e. Fit e.packet × Agrees f e.packet p)
            (λ e h. (h.0, (on_it e.packet h.1).0)) a.more a.kinds;
        all = a.all;
        sound = a.sound;
      }

  -- a test of a field's number: its numbers go on from 0
  pub number_searched : (f : Field) (v : ℕ) (y n : Tree L) (p : Numbers) (old new : List Least) (before after : List Bool) → Fit p
      → Begins f (2 ^ width_of f) p → VisitsFrom ts (Fork (Equal f v) y n) f (Some 0) p old before new after → IsSound ts root old before
      → IsReady ts root old p → Leads root (Fork (Equal f v) y n) p
      → IsSearched ts root (Fork (Equal f v) y n) (λ x. Reaching (Fork (Equal f v) y n) x p) old new after
  number_searched f v y n p old new before after fit first visit sound ready leads =
      let zero : with_number f 0 p ≡ p = ap (λ m. with_number f m p) (sym (sym (mod-eq_of_lt (number_fits f p fit)) ∙ first.1)) ∙ with_own f p in
      let whole : (x : Numbers) → Fit x → Agrees f x p → Reaching (Fork (Equal f v) y n) x p =
      λ x x_fit same. (same, div-eq_of_lt (number_fits f x x_fit) ∙ sym (div-eq_of_lt (number_fits f p fit))) in
      let a = visit root 0 (inr (refl, omega arith)) refl sound (subst (λ q. IsReady ts root old q) (sym zero) ready)
      (λ x x_fit same more. leads x x_fit (whole x x_fit same)) in
      record {
        more = a.more;
        grown = a.grown;
        kinds = All-weaker (λ e. Fit e.packet × Agrees f e.packet p) (λ e. Fit e.packet × Reaching (Fork (Equal f v) y n) e.packet p)
            (λ e h. (h.0, whole e.packet h.0 h.1)) a.more a.kinds;
        all = a.all;
        sound = a.sound;
      }
