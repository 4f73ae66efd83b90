-- The shapes of a table are found one after another, and the best of all covering entries with them.
use Rattle.std.proofs.Common.{◌≡◌, ◌⊎◌, ℕ, ◌+◌, ◌-◌, ◌<◌, ◌≤◌, Bool, true, false, cond, if◌then◌else◌, ◌==◌, ◌&&◌, List, [], ◌∷◌, ◌++◌}
use Rattle.std.proofs.Common.{length, refl, sym, ap, subst, ◌∙◌, arith, inl, inr}
use Rattle.std.proofs.lemmas.Bool.{true≢false, eqb-true}
use Rattle.std.proofs.lemmas.Bool.Decides.{nat_tests}
use Rattle.std.specs.declared.cmp.Ordering.{Ordering}
use Rattle.std.specs.declared.cmp.Ordering.TheVariants.{Less, Equal, Greater}
use Rattle.std.specs.declared.option.Option.{Option}
use Rattle.std.specs.declared.option.Option.TheVariants.{None, Some}
use Rattle.std.specs.Cmp.{Equal-is, first_so, second_so, tied_itself}
use Rattle.std.specs.List.{AllByRecursion, filter}
use Rattle.std.specs.List.Sorted.{IsStrictlySortedBy}
use Rattle.std.specs.Map.{keys_of, values_of}
use Rattle.std.specs.Option.{option_map}
use Rattle.std.specs.Ordering.{bool_cmp, is_eq, is_le, nat_cmp, ordering_reverse, ordering_then}
use Rattle.pq_model.specs.MatchFields.{covers, vlan_word}
use Rattle.pq_model.specs.SwitchMachine.{taken}
use Rattle.pq_model.specs.Tagged.{TaggedPacket}
use Rattle.pq_switch.specs.Added.{AreKept, IsKept, entries_of, in_turn, place_in}
use Rattle.pq_switch.specs.Choice.{IsBest, IsBestOfMore, IsBestWith, IsIn, best_of, best_of_few, counts, preferred}
use Rattle.pq_switch.specs.Patterns.{pattern_of, projected, shape_of}
use Rattle.pq_switch.specs.Places.{block_at, block_cmp, first_of, past, pattern_cmp, place_cmp}
use Rattle.pq_switch.specs.Ranges.{onward, range_of}
use Rattle.pq_switch.specs.declared.entry.Slot.{Slot}
use Rattle.pq_switch.specs.declared.pattern.Pattern.{Pattern}
use Rattle.pq_switch.specs.declared.place.Block.{Block}
use Rattle.pq_switch.specs.declared.place.Place.{Place}
use Rattle.pq_switch.proofs.Choice.{best-all, best-among, best-is_taken, in-either, in-left, in-right}
use Rattle.pq_switch.proofs.Falling.{squeezed}
use Rattle.pq_switch.proofs.Patterns.{covered, shape-decides, stated}
use Rattle.pq_switch.proofs.Places.{block-exact, block_total, first_of-first, pattern-exact, pattern_total, place-exact, place_cmp_total}
use Rattle.pq_switch.proofs.Ranges.{from_range, in_range}

all-in : {A : Type 0} (P : A → Type 0) (x : A) (xs : List A) → AllByRecursion P xs → IsIn x xs → P x
all-in P x [] all i = absurd i
all-in P x (y ∷ xs) (here, all) (inl e) = subst P (sym e) here
all-in P x (y ∷ xs) (here, all) (inr i) = all-in P x xs all i

key-in : (e : Place × Slot) (es : List (Place × Slot)) → IsIn e es → IsIn e.0 (keys_of es)
key-in e [] i = i
key-in e (d ∷ es) (inl is) = inl (ap (λ (r : Place × Slot). r.0) is)
key-in e (d ∷ es) (inr i) = inr (key-in e es i)

value-in : (e : Place × Slot) (es : List (Place × Slot)) → IsIn e es → IsIn e.1 (values_of es)
value-in e [] i = i
value-in e (d ∷ es) (inl is) = inl (ap (λ (r : Place × Slot). r.1) is)
value-in e (d ∷ es) (inr i) = inr (value-in e es i)

-- an entry under its place
record IsUnder (t : Slot) (es : List (Place × Slot)) : Type 0 where
  at : Place
  among : IsIn (at, t) es

under : (t : Slot) (es : List (Place × Slot)) → IsIn t (values_of es) → IsUnder t es
under t [] i = absurd i
under t (e ∷ es) (inl is) = record { at = e.0; among = inl (λ i. (e.0, is i)) }
under t (e ∷ es) (inr i) = let more = under t es i in record { at = more.at; among = inr more.among }

le-Equal : (r : Ordering) → r ≡ Equal → is_le r ≡ true
le-Equal r e = ap is_le e

le-Less : (r : Ordering) → r ≡ Less → is_le r ≡ true
le-Less r e = ap is_le e

chained : (p q r : Place) → is_le (place_cmp p q) ≡ true → is_le (place_cmp q r) ≡ true → is_le (place_cmp p r) ≡ true
chained p q r h k = by (place_cmp p q) refl h (place_cmp q r) refl k
  where
    by : (s : Ordering) → place_cmp p q ≡ s → is_le s ≡ true → (t : Ordering) → place_cmp q r ≡ t → is_le t ≡ true → is_le (place_cmp p r) ≡ true
    by Less e h Less f k = le-Less _ (place_cmp_total.trans p q r e f)
    by Less e h Equal f k = ap (λ z. is_le (place_cmp p z)) (sym (place-exact q r f)) ∙ le-Less _ e
    by Less e h Greater f k = absurd (true≢false (sym k))
    by Equal e h t f k = ap (λ z. is_le (place_cmp z r)) (place-exact p q e) ∙ ap is_le f ∙ k
    by Greater e h t f k = absurd (true≢false (sym h))

le_first : (r s : Ordering) → is_le (ordering_then r s) ≡ true → is_le r ≡ true
le_first Less s h = refl
le_first Equal s h = refl
le_first Greater s h = h

block_le : (p q : Place) → is_le (place_cmp p q) ≡ true → is_le (block_cmp p.block q.block) ≡ true
block_le p q h = le_first (block_cmp p.block q.block) _ h

-- what is between two of one block is in it
between : (b c : Block) → is_le (block_cmp b c) ≡ true → is_le (block_cmp c b) ≡ true → c ≡ b
between b c h k = by (block_cmp b c) refl h
  where
    by : (r : Ordering) → block_cmp b c ≡ r → is_le r ≡ true → c ≡ b
    by Less e h = absurd (true≢false (sym k ∙ ap is_le (block_total.antisymm c b) ∙ ap (λ r. is_le (ordering_reverse r)) e))
    by Equal e h = sym (block-exact b c e)
    by Greater e h = absurd (true≢false (sym h))

-- nothing after a shape reaches back to it
past-later : (q : Place) → q.behind ≡ false → is_le (place_cmp (past q) q) ≡ false
past-later q real =
    (λ i. is_le (ordering_then (tied_itself block_total q.block i)
    (ordering_then (tied_itself pattern_total q.shape i)
    (ordering_then (bool_cmp true (real i)) (ordering_then (pattern_cmp q.pattern q.pattern) (nat_cmp q.down q.down))))))

past-first : (q : Place) → q.behind ≡ false → is_le (place_cmp q (past q)) ≡ true
past-first q real =
    (λ i. is_le (ordering_then (tied_itself block_total q.block i)
    (ordering_then (tied_itself pattern_total q.shape i)
    (ordering_then (bool_cmp (real i) true) (ordering_then (pattern_cmp q.pattern q.pattern) (nat_cmp q.down q.down))))))

-- How many entries are left.

abbrev pub left : Place → List (Place × Slot) → ℕ
left from es = length (filter (λ e. is_le (place_cmp from e.0)) es)

module _ (from onto : Place) (further : (q : Place) → is_le (place_cmp onto q) ≡ true → is_le (place_cmp from q) ≡ true) where
  no_more_left : (es : List (Place × Slot)) → left onto es ≤ left from es
  no_more_left [] = omega arith
  no_more_left (d ∷ es) = by (is_le (place_cmp from d.0)) refl (is_le (place_cmp onto d.0)) refl (no_more_left es)
    where
      by : (b : Bool) → is_le (place_cmp from d.0) ≡ b → (c : Bool) → is_le (place_cmp onto d.0) ≡ c → left onto es ≤ left from es →
          length (cond c (d ∷ filter (λ e. is_le (place_cmp onto e.0)) es) (filter (λ e. is_le (place_cmp onto e.0)) es)) ≤ length
          (cond b (d ∷ filter (λ e. is_le (place_cmp from e.0)) es) (filter (λ e. is_le (place_cmp from e.0)) es))
      by true e true f more = omega (arith, more)
      by true e false f more = omega (arith, more)
      by false e true f more = absurd (true≢false (sym (further d.0 f) ∙ e))
      by false e false f more = more

  pub fewer_left : (es : List (Place × Slot)) (r : Place × Slot) → IsIn r es → is_le (place_cmp from r.0) ≡ true
      → is_le (place_cmp onto r.0) ≡ false → left onto es < left from es
  fewer_left [] r i reach gone = absurd i
  fewer_left (d ∷ es) r (inl same) reach gone =
      let all = no_more_left es in
      let a : is_le (place_cmp from d.0) ≡ true = ap (λ (e : Place × Slot). is_le (place_cmp from e.0)) (sym same) ∙ reach in
      let b : is_le (place_cmp onto d.0) ≡ false = ap (λ (e : Place × Slot). is_le (place_cmp onto e.0)) (sym same) ∙ gone in
      let one : left from (d ∷ es) ≡ left from es + 1 =
      ap (λ c. length (cond c (d ∷ filter (λ e. is_le (place_cmp from e.0)) es) (filter (λ e. is_le (place_cmp from e.0)) es))) a
      ∙ (omega arith) in
      let none : left onto (d ∷ es) ≡ left onto es =
      ap (λ c. length (cond c (d ∷ filter (λ e. is_le (place_cmp onto e.0)) es) (filter (λ e. is_le (place_cmp onto e.0)) es))) b in
      omega (arith, all, one, none)
  fewer_left (d ∷ es) r (inr i) reach gone = by (is_le (place_cmp from d.0)) refl (is_le (place_cmp onto d.0)) refl (fewer_left es r i reach gone)
    where
      by : (b : Bool) → is_le (place_cmp from d.0) ≡ b → (c : Bool) → is_le (place_cmp onto d.0) ≡ c → left onto es < left from es →
          length (cond c (d ∷ filter (λ e. is_le (place_cmp onto e.0)) es) (filter (λ e. is_le (place_cmp onto e.0)) es)) < length
          (cond b (d ∷ filter (λ e. is_le (place_cmp from e.0)) es) (filter (λ e. is_le (place_cmp from e.0)) es))
      by true e true f more = omega (arith, more)
      by true e false f more = omega (arith, more)
      by false e true f more = absurd (true≢false (sym (further d.0 f) ∙ e))
      by false e false f more = more

-- The best of the entries before a bound.

module _ (n : ℕ) (x : TaggedPacket) (es : List (Place × Slot)) (start : List Slot) (b : Block) where
  -- the best of some that has these, and all of the block that count before the bound
  pub record IsBestBefore (from : Place) (best : Option Slot) : Type 0 where
    pub some : List Slot
    pub is_best : IsBest n x some best
    pub inside : (t : Slot) → IsIn t some → IsIn t (values_of es)
    pub has : (t : Slot) → IsIn t start → IsIn t some
    pub all : (e : Place × Slot) → IsIn e es → e.0.block ≡ b → is_le (place_cmp from e.0) ≡ false → counts n x e.1 ≡ true → IsIn e.1 some

  module _ (next : ℕ) (kept : AreKept next es) where
    -- a place of an entry
    placed : (e : Place × Slot) → IsIn e es → place_in e.1.entry ≡ e.0
    placed e i = place-exact (place_in e.1.entry) e.0 (all-in (IsKept next) e es kept.each i).place

    table-of : (t : Slot) → counts n x t ≡ true → t.entry.table ≡ n
    table-of t c = let test = first_so (t.entry.table == n) (covers t.entry.matching x) c in grind (arith, nat_tests)

    pub begins : (best : Option Slot) → ((t : Slot) → IsIn t start → IsIn t (values_of es)) → IsBest n x start best → IsBestBefore (first_of b) best
    begins best sub is_best = record {
      some = start;
      is_best = is_best;
      inside = sub;
      has = λ t i. i;
      all = λ e i block before c. absurd (true≢false (sym (first_of-first b e.0 block) ∙ before));
    }

    -- what is still to come from a place on
    abbrev Beyond : Option Place → Place → Type 0
    Beyond None p = ⊥
    Beyond (Some q) p = is_le (place_cmp q p) ≡ true

    -- the place is that of one of these, in the block
    abbrev Stands : Option Place → List (Place × Slot) → Type 0
    Stands None rest = Unit {0}
    Stands (Some q) rest = (slot : Slot) × IsIn (q, slot) rest × (q.block ≡ b)

    -- the best of some that has all that count, but for what is beyond
    record IsScanned (rest : List (Place × Slot)) (r : Option Slot × Option Place) : Type 0 where
      some : List Slot
      is_best : IsBest n x some r.0
      inside : (t : Slot) → IsIn t some → IsIn t (values_of es)
      has : (t : Slot) → IsIn t start → IsIn t some
      all : (e : Place × Slot) → IsIn e es → e.0.block ≡ b → counts n x e.1 ≡ true → IsIn e.1 some ⊎ Beyond r.1 e.0

    stands-more : (o : Option Place) (e : Place × Slot) (rest : List (Place × Slot)) → Stands o rest → Stands o (e ∷ rest)
    stands-more None e rest h = tt
    stands-more (Some q) e rest h = (h.0, inr h.1, h.2)

    in_block : (c : Block) → is_eq (block_cmp c b) ≡ true → c ≡ b
    in_block c h = block-exact c b ((Equal-is (block_cmp c b)).0 h)

    in_another : (c : Block) → is_eq (block_cmp c b) ≡ false → c ≡ b → ⊥
    in_another c h same = true≢false (sym (ap (λ d. is_eq (block_cmp d b)) same ∙ ap is_eq (tied_itself block_total b)) ∙ h)

    stands : (k : ℕ) (rest : List (Place × Slot)) (best : Option Slot) → Stands (best_of_few k b n x rest best).1 rest
    stands k [] best = tt
    stands k (d ∷ rest) best = by (is_eq (block_cmp d.0.block b)) refl (k == 0) (stands (k - 1) rest (preferred n x d.1 best))
      where
        by : (h : Bool) → is_eq (block_cmp d.0.block b) ≡ h → (c : Bool) → Stands (best_of_few (k - 1) b n x rest (preferred n x d.1 best)).1 rest →
            Stands (if h then (if c then (best, Some d.0) else best_of_few (k - 1) b n x rest (preferred n x d.1 best)) else (best, None)).1 (d ∷ rest)
        by true here true more = (d.1, inl refl, in_block d.0.block here)
        by true here false more = stands-more _ d rest more
        by false here c more = tt

    -- a few, one after another
    scans : (k : ℕ) (rest : List (Place × Slot)) → IsStrictlySortedBy place_cmp (keys_of rest)
        → ((e : Place × Slot) → IsIn e rest → IsIn e es) → ((e : Place × Slot) → IsIn e rest → is_le (block_cmp b e.0.block) ≡ true) →
        (some : List Slot) (best : Option Slot) → IsBest n x some best → ((t : Slot) → IsIn t some → IsIn t (values_of es))
        → ((t : Slot) → IsIn t start → IsIn t some) →
        ((e : Place × Slot) → IsIn e es → e.0.block ≡ b → counts n x e.1 ≡ true → IsIn e.1 some ⊎ IsIn e rest) → IsScanned rest (best_of_few k b n x rest best)
    unfolding IsStrictlySortedBy
    scans k [] sorted sub above some best is_best inside has cover = record {
      some = some;
      is_best = is_best;
      inside = inside;
      has = has;
      all = λ e i block c. elim (cover e i block c) [ inl j ↦ inl j | inr none ↦ absurd none ];
    }
    scans k (d ∷ rest) (later, sorted) sub above some best is_best inside has cover =
        by (is_eq (block_cmp d.0.block b)) refl (k == 0) refl
        (scans (k - 1) rest sorted (λ e i. sub e (inr i)) (λ e i. above e (inr i)) (some ++ d.1 ∷ []) (preferred n x d.1 best)
        (best-all n x some (d.1 ∷ []) best is_best) within (λ t i. in-left t some (d.1 ∷ []) (has t i)) covered_more)
      where
        within : (t : Slot) → IsIn t (some ++ d.1 ∷ []) → IsIn t (values_of es)
        within t i = elim (in-either t some (d.1 ∷ []) i) [
          | inl j ↦ inside t j
          | inr j ↦ elim j [ inl same ↦ subst (λ s. IsIn s (values_of es)) (sym same) (value-in d es (sub d (inl refl))) | inr none ↦ absurd none ]
        ]

        covered_more : (e : Place × Slot) → IsIn e es → e.0.block ≡ b → counts n x e.1 ≡ true → IsIn e.1 (some ++ d.1 ∷ []) ⊎ IsIn e rest
        covered_more e i block c = elim (cover e i block c) [
          | inl j ↦ inl (in-left e.1 some (d.1 ∷ []) j)
          | inr j ↦ elim j [ inl same ↦ inl (in-right e.1 some (d.1 ∷ []) (inl (ap (λ (r : Place × Slot). r.1) same))) | inr more ↦ inr more ]
        ]

        from_here : (e : Place × Slot) → IsIn e (d ∷ rest) → is_le (place_cmp d.0 e.0) ≡ true
        from_here e (inl same) = ap (λ (r : Place × Slot). is_le (place_cmp d.0 r.0)) same ∙ le-Equal _ (tied_itself place_cmp_total d.0)
        from_here e (inr j) = le-Less _ (all-in (λ z. place_cmp d.0 z ≡ Less) e.0 (keys_of rest) later (key-in e rest j))

        by : (h : Bool) → is_eq (block_cmp d.0.block b) ≡ h → (c : Bool) → (k == 0) ≡ c
            → IsScanned rest (best_of_few (k - 1) b n x rest (preferred n x d.1 best)) →
            IsScanned (d ∷ rest) (if h then (if c then (best, Some d.0) else best_of_few (k - 1) b n x rest (preferred n x d.1 best)) else (best, None))
        by true here true last more = record {
          some = some;
          is_best = is_best;
          inside = inside;
          has = has;
          all = λ e i block c. elim (cover e i block c) [ inl j ↦ inl j | inr j ↦ inr (from_here e j) ];
        }
        by true here false last more = record {
          some = more.some;
          is_best = more.is_best;
          inside = more.inside;
          has = more.has;
          all = more.all;
        }
        by false here c last more = record {
          some = some;
          is_best = is_best;
          inside = inside;
          has = has;
          all = λ e i block count. elim (cover e i block count) [
            | inl j ↦ inl j
            | inr j ↦
                let down : is_le (block_cmp d.0.block b) ≡ true = ap (λ z. is_le (block_cmp d.0.block z)) (sym block) ∙ block_le d.0 e.0 (from_here e j) in
                absurd (in_another d.0.block here (between b d.0.block (above d (inl refl)) down))
          ];
        }

    in-onward : (from : Place) (e : Place × Slot) (ds : List (Place × Slot)) → IsIn e ds → is_le (place_cmp from e.0) ≡ true → IsIn e (onward from ds)
    in-onward from e (d ∷ ds) (inl same) reach =
        let reached = ap (λ (r : Place × Slot). is_le (place_cmp from r.0)) (sym same) ∙ reach in
        subst (λ b. IsIn e (cond (b && true) (d ∷ onward from ds) (onward from ds))) (sym reached) (inl same)
    in-onward from e (d ∷ ds) (inr i) reach = by (is_le (place_cmp from d.0)) (in-onward from e ds i reach)
      where
        by : (b : Bool) → IsIn e (onward from ds) → IsIn e (cond (b && true) (d ∷ onward from ds) (onward from ds))
        by true more = inr more
        by false more = more
    in-onward from e [] i reach = absurd i

    out-onward : (from : Place) (e : Place × Slot) (ds : List (Place × Slot)) → IsIn e (onward from ds) → IsIn e ds × (is_le (place_cmp from e.0) ≡ true)
    out-onward from e [] i = absurd i
    out-onward from e (d ∷ ds) i = by (is_le (place_cmp from d.0)) refl i (out-onward from e ds)
      where
        by : (b : Bool) → is_le (place_cmp from d.0) ≡ b → IsIn e (cond (b && true) (d ∷ onward from ds) (onward from ds))
            → (IsIn e (onward from ds) → IsIn e ds × (is_le (place_cmp from e.0) ≡ true))
            → IsIn e (d ∷ ds) × (is_le (place_cmp from e.0) ≡ true)
        by true is (inl same) more = (inl same, ap (λ (r : Place × Slot). is_le (place_cmp from r.0)) same ∙ is)
        by true is (inr i) more = let m = more i in (inr m.0, m.1)
        by false is i more = let m = more i in (inr m.0, m.1)

    keys-onward : (P : Place → Type 0) (from : Place) (ds : List (Place × Slot)) → AllByRecursion P (keys_of ds) → AllByRecursion P (keys_of (onward from ds))
    keys-onward P from [] all = tt
    keys-onward P from (d ∷ ds) (here, all) = by (is_le (place_cmp from d.0)) (keys-onward P from ds all)
      where
        by : (b : Bool) → AllByRecursion P (keys_of (onward from ds)) → AllByRecursion P (keys_of (cond (b && true) (d ∷ onward from ds) (onward from ds)))
        by true more = (here, more)
        by false more = more

    sorted-onward : (from : Place) (ds : List (Place × Slot)) → IsStrictlySortedBy place_cmp (keys_of ds)
        → IsStrictlySortedBy place_cmp (keys_of (onward from ds))
    unfolding IsStrictlySortedBy
    sorted-onward from [] sorted = tt
    sorted-onward from (d ∷ ds) (later, sorted) = by (is_le (place_cmp from d.0)) (sorted-onward from ds sorted)
      where
        by : (b : Bool) → IsStrictlySortedBy place_cmp (keys_of (onward from ds))
            → IsStrictlySortedBy place_cmp (keys_of (cond (b && true) (d ∷ onward from ds) (onward from ds)))
        by true more = (keys-onward (λ z. place_cmp d.0 z ≡ Less) from ds later, more)
        by false more = more

    -- where a few end before the block does
    module _ (from : Place) (best : Option Slot) (k : ℕ) (found : Option Slot) (q : Place) (is : best_of_few k b n x (onward from es) best
        ≡ (found, Some q)) where
      at : Stands (Some q) (onward from es)
      at = subst (λ r. Stands r.1 (onward from es)) is (stands k (onward from es) best)

      pub block_stays : q.block ≡ b
      block_stays = at.2

      reached : IsIn (q, at.0) es × (is_le (place_cmp from q) ≡ true)
      reached = out-onward from (q, at.0) es at.1

      real : q.behind ≡ false
      real = sym (ap (λ (p : Place). p.behind) (placed (q, at.0) reached.0))

      further : (p : Place) → is_le (place_cmp (past q) p) ≡ true → is_le (place_cmp from p) ≡ true
      further p h = chained from q p reached.1 (chained q (past q) p (past-first q real) h)

      pub gets_shorter : left (past q) es < left from es
      gets_shorter = fewer_left from (past q) further es (q, at.0) reached.0 reached.1 (past-later q real)

    -- what lies from a place on and before the next shape has its shape
    shape-of : (q p : Place) → is_le (place_cmp q p) ≡ true → is_le (place_cmp (past q) p) ≡ false → q.shape ≡ p.shape
    shape-of q p reach before =
        let one = squeezed (block_cmp q.block p.block) _ _ reach before in
        let two = squeezed (pattern_cmp q.shape p.shape) _ _ one.from one.past in
        pattern-exact q.shape p.shape two.equal

    module _ (sorted : IsStrictlySortedBy place_cmp (keys_of es)) (from : Place) (block : from.block ≡ b) (best : Option Slot)
        (so_far : IsBestBefore from best) (k : ℕ) (found : Option Slot) where
      scanned : IsScanned (onward from es) (best_of_few k b n x (onward from es) best)
      scanned = scans k (onward from es) (sorted-onward from es sorted) (λ e i. (out-onward from e es i).0)
          (λ e i. above e i) so_far.some best so_far.is_best so_far.inside so_far.has
          (λ e i same c. cover e i same c (is_le (place_cmp from e.0)) refl)
        where
          above : (e : Place × Slot) → IsIn e (onward from es) → is_le (block_cmp b e.0.block) ≡ true
          above e i = ap (λ z. is_le (block_cmp z e.0.block)) (sym block) ∙ block_le from e.0 (out-onward from e es i).1

          cover : (e : Place × Slot) → IsIn e es → e.0.block ≡ b → counts n x e.1 ≡ true → (h : Bool) → is_le (place_cmp from e.0) ≡ h
              → IsIn e.1 so_far.some ⊎ IsIn e (onward from es)
          cover e i same c true is = inr (in-onward from e es i is)
          cover e i same c false is = inl (so_far.all e i same is c)

      pub ends : best_of_few k b n x (onward from es) best ≡ (found, None) → IsBestOfMore n x es start b found
      ends is =
          let done = subst (IsScanned (onward from es)) is scanned in
          record {
            some = done.some;
            is_best = done.is_best;
            inside = done.inside;
            has = done.has;
            all = λ e i same c. elim (done.all e i same c) [ inl j ↦ j | inr none ↦ absurd none ];
          }

      pub goes_on : (q : Place) → best_of_few k b n x (onward from es) best ≡ (found, Some q)
          → IsBestBefore (past q) (best_of n x (range_of n (projected q.shape x) es) found)
      goes_on q is = record {
        some = done.some ++ more;
        is_best = best-all n x done.some more found done.is_best;
        inside = λ t i. elim (in-either t done.some more i) [ inl j ↦ done.inside t j | inr j ↦ from_range n (projected q.shape x) es t j ];
        has = λ t i. in-left t done.some more (done.has t i);
        all = λ e i same before c. by e i before c (done.all e i same c);
      }
        where
          done : IsScanned (onward from es) (found, Some q)
          done = subst (IsScanned (onward from es)) is scanned

          more : List Slot
          more = range_of n (projected q.shape x) es

          by : (e : Place × Slot) → IsIn e es → is_le (place_cmp (past q) e.0) ≡ false → counts n x e.1 ≡ true
              → IsIn e.1 done.some ⊎ (is_le (place_cmp q e.0) ≡ true) → IsIn e.1 (done.some ++ more)
          by e i before c (inl j) = in-left e.1 done.some more j
          by e i before c (inr reach) =
              let p = pattern_of e.1.entry.matching in
              let shape : q.shape ≡ shape_of p = shape-of q e.0 reach before ∙ ap (λ (r : Place). r.shape) (sym (placed e i)) in
              let states : p ≡ projected q.shape x =
              covered e.1.entry.matching x (second_so (e.1.entry.table == n) (covers e.1.entry.matching x) c) ∙ sym (shape-decides p x)
              ∙ ap (λ s. projected s x) (sym shape) in
              in-right e.1 done.some more (in_range next n (projected q.shape x) es kept.each e.1 (value-in e es i) (table-of e.1 c) states)

-- The four blocks.

module _ (n : ℕ) (x : TaggedPacket) (es : List (Place × Slot)) (next : ℕ) (kept : AreKept next es) where
  abbrev port : Option ℕ
  port = Some x.packet.port

  abbrev word : Option ℕ
  word = Some (vlan_word x.vlan)

  -- the best with the entries of four blocks is the best of all
  pub best_of_blocks : (one two three four : Option Slot) → IsBestWith n x es (block_at n port word) None one
      → IsBestWith n x es (block_at n port None) one two →
      IsBestWith n x es (block_at n None word) two three → IsBestWith n x es (block_at n None None) three four
      → option_map (λ s. s.entry) four ≡ taken (entries_of (in_turn (values_of es))) n x
  best_of_blocks one two three four f g h k =
      sym (best-is_taken n x (values_of es) kept.climb four (best-among n x d.some (values_of es) four d.inside found d.is_best))
    where
      a : IsBestOfMore n x es [] (block_at n port word) one
      a = f [] (λ t i. absurd i) (λ t i. absurd i)

      b : IsBestOfMore n x es a.some (block_at n port None) two
      b = g a.some a.inside a.is_best

      c : IsBestOfMore n x es b.some (block_at n None word) three
      c = h b.some b.inside b.is_best

      d : IsBestOfMore n x es c.some (block_at n None None) four
      d = k c.some c.inside c.is_best

      block_of : (e : Place × Slot) → IsIn e es → (p v : Option ℕ) → e.1.entry.table ≡ n → e.1.entry.matching.in_port ≡ p
          → e.1.entry.matching.vlan ≡ v → e.0.block ≡ block_at n p v
      block_of e i p v table port_is vlan_is =
          ap (λ (q : Place). q.block) (sym (place-exact (place_in e.1.entry) e.0 (all-in (IsKept next) e es kept.each i).place))
          ∙ (λ j. block_at (table j) (port_is j) (vlan_is j))

      found : (t : Slot) → IsIn t (values_of es) → counts n x t ≡ true → IsIn t d.some
      found t i counted =
          let at = under t es i in
          let m = t.entry.matching in
          let table : t.entry.table ≡ n = eqb-true t.entry.table n (first_so (t.entry.table == n) (covers m x) counted) in
          let shows = covered m x (second_so (t.entry.table == n) (covers m x) counted) in
          elim (stated m.in_port x.packet.port (ap (λ (p : Pattern). p.in_port) shows)) [
            | inl no_port ↦ elim (stated m.vlan (vlan_word x.vlan) (ap (λ (p : Pattern). p.vlan) shows)) [
              | inl no_word ↦ d.all (at.at, t) at.among (block_of (at.at, t) at.among None None table no_port no_word) counted
              | inr a_word ↦ d.has t (c.all (at.at, t) at.among (block_of (at.at, t) at.among None word table no_port a_word) counted)
            ]
            | inr a_port ↦ elim (stated m.vlan (vlan_word x.vlan) (ap (λ (p : Pattern). p.vlan) shows)) [
              | inl no_word ↦ d.has t (c.has t (b.all (at.at, t) at.among (block_of (at.at, t) at.among port None table a_port no_word) counted))
              | inr a_word ↦ d.has t (c.has t (b.has t (a.all (at.at, t) at.among (block_of (at.at, t) at.among port word table a_port a_word) counted)))
            ]
          ]
