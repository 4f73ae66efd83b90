-- The calls of a search: what each is handed, and what it gives where the tree is at a place.
use Rattle.std.proofs.Common.{◌≡◌, ℕ, suc, ◌+◌, ◌-◌, ◌*◌, ◌/◌, ◌^◌, ◌<◌, ◌≤◌, inl, inr, Bool, true, false, ◌==◌, if◌then◌else◌, List, []}
use Rattle.std.proofs.Common.{◌∷◌, ◌++◌, Option, Some, None, length, get_or, set, refl, sym, ap, subst, ◌∙◌, lt_of_lt_of_le, pow_mono}
use Rattle.std.proofs.Common.{arith}
use Rattle.std.specs.Prelude.{slice_get, IfSome}
use Rattle.std.specs.Option.{option_map}
use Rattle.std.proofs.Math.Nat.{mod-one}
use Rattle.std.proofs.lemmas.Bool.{or_parts}
use Rattle.std.proofs.lemmas.Bool.Decides.{eqb_tells}
use Rattle.std.proofs.lemmas.Nat.{pow_pos}
use Rattle.std.proofs.lemmas.Option.{slice_get_within, slice_get_cases, slice_get-get_or}
use Rattle.pq_lists.proofs.Places.{one_at}
use Rattle.pq_fields.specs.declared.field.Field.{Field}
use Rattle.pq_fields.specs.Packet.{Numbers, Fit, number_in, rank, is_wide, width_of, with_number}
use Rattle.pq_fields.specs.Pred.{is_prefixed}
use Rattle.pq_store.specs.declared.test.Test.{Test}
use Rattle.pq_store.specs.declared.test.Test.TheVariants.{Equal, Bit}
use Rattle.pq_store.specs.declared.least.Least.{Least}
use Rattle.pq_store.specs.Test.{is_address}
use Rattle.pq_store.specs.Tree.{Tree, value, rest}
use Rattle.pq_store.specs.Tree.Tree.{Tip, Fork}
use Rattle.pq_store.specs.Diagram.{IsDiagram, most}
use Rattle.pq_store.specs.Store.{AreDiagrams, ShowsBranch, IsCanonical, IsPastAt}
use Rattle.pq_store.specs.Search.{Agrees, AreFound, IsSeen, IsClear, Begins, Leads, Reaching, IsSearched, IsFirst, IsFirstAt, GoesOn}
use Rattle.pq_store.specs.Search.{Visits, VisitsFrom, begins, raised}
use Rattle.pq_store.proofs.LeastFound.{leaf_searched}
use Rattle.pq_store.proofs.LeastWeight.{size, visit_weight, visit_from_weight, size_rest, size_some, from_most}
use Rattle.pq_store.proofs.LeastSteps.{nothing_left, bit_searched, gap_searched, next_searched, last_searched, number_searched}
use Rattle.pq_fields.proofs.Fitting.{number_fits}
use Rattle.pq_store.proofs.PrefixNumbers.{narrow_width, clear_with}
use Rattle.pq_store.proofs.PrefixBits.{bit_set, bit_fits, clear_first, set_first}
use Rattle.pq_store.proofs.PrefixSpans.{Inside, first_inside, side_of_bit, yes_of_number, no_of_number, rest_inside, asks_less, rest_same}

-- a field has its own rank
own_rank : (f : Field) → (rank f == rank f) ≡ true
own_rank f = elim (eqb_tells (rank f) (rank f)) [ inl h ↦ h.0 | inr h ↦ absurd (h.1 refl) ]

-- half of a field's numbers are numbers of it
half_below : (f : Field) (a : ℕ) → a ≤ 2 ^ width_of f / 2 - 1 → a < 2 ^ width_of f
half_below f a less = omega (arith, pow_pos (width_of f))

-- whether a place is marked doesn't depend on what is read beyond the end
pub seen_here : (seen : List Bool) (k j : ℕ) (b c : Bool) → j ≡ k → k < length seen → b ≡ get_or seen j b → b ≡ c → get_or seen k false ≡ c
seen_here seen k j b c place within is own = same_bool (sym (slice_get-get_or seen k false within) ∙ slice_get-get_or seen k b within)
    ∙ ap (λ m. get_or seen m b) (sym place) ∙ sym is ∙ own
  where
    same_bool : {a d : Bool} → Some a ≡ Some d → a ≡ d
    same_bool h = cc

module _ {L : Type 0} where
  -- a tree is at each place
  pub tree_there : (ts : List (Tree L)) (k : ℕ) → k < length ts → (t : Tree L) × (slice_get ts k ≡ Some t)
  tree_there ts k within = elim (slice_get_cases ts k).1 [ inl h ↦ (h.0, h.2) | inr h ↦ absurd (omega arith) ]

  -- canonical ids with one leaf are one
  pub one_tip : (ts : List (Tree L)) → IsCanonical ts → (i j : ℕ) (l : L) → slice_get ts i ≡ Some (Tip l) → slice_get ts j ≡ Some (Tip l) → i ≡ j
  one_tip ts canonical i j l left right = canonical i j (slice_get_within ts i (Tip l) left) (slice_get_within ts j (Tip l) right)
      (λ x fit. ap (option_map (λ t. value t x)) (left ∙ sym right))

  module _ (ts : List (Tree L)) (k i j : ℕ) (test : Test) (shows : ShowsBranch ts k test i j) where
    -- the yes side weighs less than the node
    pub lighter_yes : visit_weight (slice_get ts i) < visit_weight (slice_get ts k)
    lighter_yes = rw (shows.is, shows.yes_is) (omega arith)

    -- so does the no side
    pub lighter_no : visit_weight (slice_get ts j) < visit_weight (slice_get ts k)
    lighter_no = rw (shows.is, shows.no_is) (omega arith)

    -- the sides are ids
    pub yes_there : i < length ts
    yes_there = slice_get_within ts i shows.yes_tree shows.yes_is

    -- the no side is one too
    pub no_there : j < length ts
    no_there = slice_get_within ts j shows.no_tree shows.no_is

  module _ (ts : List (Tree L)) (k i j : ℕ) (f : Field) (b : ℕ) (shows : ShowsBranch ts k (Bit f b) i j) (diagrams : AreDiagrams ts)
      (p : Numbers) (first : IsFirstAt ts k p) where
    bit_diagram : IsDiagram (Fork (Bit f b) shows.yes_tree shows.no_tree)
    bit_diagram = diagrams k (Fork (Bit f b) shows.yes_tree shows.no_tree) shows.is

    -- the packet is the first where it is asked
    bit_begins : Begins f (2 ^ (width_of f - b)) p
    bit_begins = first (Fork (Bit f b) shows.yes_tree shows.no_tree) shows.is

    -- the bit is lawful
    pub bit_address : is_address f ≡ true
    bit_address = bit_diagram.lawful.0.0

    -- and within the width
    pub bit_within : b < width_of f
    bit_within = bit_diagram.lawful.0.1

    -- there is room for it
    pub bit_room : Fit p → number_in f p + 2 ^ (width_of f - 1 - b) < 2 ^ width_of f
    bit_room fit = bit_fits f b p bit_within bit_begins (number_fits f p fit)

    -- the packet is the first at the no side
    pub bit_no_first : IsFirstAt ts j p
    bit_no_first t at = subst (λ u. IsFirst u p) (one_at ts j shows.no_tree t shows.no_is at)
        (first_inside f (2 ^ (width_of f - 1 - b)) shows.no_tree p
        (side_of_bit f b shows.no_tree bit_diagram.lawful.0 bit_diagram.lawful.2 bit_diagram.ascends.1)
        (clear_first f b p bit_within bit_begins))

    -- with the bit it is the first at the yes side
    pub bit_yes_first : (q : Numbers) → q ≡ with_number f (number_in f p + 2 ^ (width_of f - 1 - b)) p → IsFirstAt ts i q
    bit_yes_first q is t at =
        subst (λ x. IsFirst t x) (sym is)
        (subst (λ u. IsFirst u (bit_set f b p bit_within bit_begins)) (one_at ts i shows.yes_tree t shows.yes_is at)
        (first_inside f (2 ^ (width_of f - 1 - b)) shows.yes_tree (bit_set f b p bit_within bit_begins)
        (side_of_bit f b shows.yes_tree bit_diagram.lawful.0 bit_diagram.lawful.1 bit_diagram.ascends.0)
        (set_first f b p bit_within bit_begins)))

    -- a visit of both sides visits the node
    pub bit_visited : (q : Numbers) → q ≡ with_number f (number_in f p + 2 ^ (width_of f - 1 - b)) p → (l : ℕ) → l ≡ k
        → (old mid new : List Least) (before middle after : List Bool) → length after ≡ length ts
        → ((t : Tree L) → slice_get ts j ≡ Some t → Visits ts t p old before mid middle)
        → ((t : Tree L) → slice_get ts i ≡ Some t → Visits ts t q mid middle new after) → (t : Tree L) → slice_get ts k ≡ Some t
        → Visits ts t p old before new (set after l true)
    bit_visited q is l place old mid new before middle after long visit_no visit_yes t at root sound ready leads =
        let own : Fork (Bit f b) shows.yes_tree shows.no_tree ≡ t = one_at ts k (Fork (Bit f b) shows.yes_tree shows.no_tree) t shows.is at in
        subst (λ m. IsSearched ts root t (λ x. Reaching t x p) old new (set after m true)) (sym place)
        (subst (λ u. IsSearched ts root u (λ x. Reaching u x p) old new (set after k true)) own
        (bit_searched ts root f b shows.yes_tree shows.no_tree p k old mid new before middle after shows.is
        (subst (λ m. k < m) (sym long) (slice_get_within ts k (Fork (Bit f b) shows.yes_tree shows.no_tree) shows.is))
        bit_diagram bit_within bit_begins sound ready (subst (λ u. Leads root u p) (sym own) leads)
        (visit_no shows.no_tree shows.no_is)
        (subst (λ x. Visits ts shows.yes_tree x mid middle new after) is (visit_yes shows.yes_tree shows.yes_is))))

  module _ (ts : List (Tree L)) (k i j : ℕ) (f : Field) (v : ℕ) (shows : ShowsBranch ts k (Equal f v) i j) (diagrams : AreDiagrams ts) where
    number_diagram : IsDiagram (Fork (Equal f v) shows.yes_tree shows.no_tree)
    number_diagram = diagrams k (Fork (Equal f v) shows.yes_tree shows.no_tree) shows.is

    -- the tree at the place is this fork
    same_number : (t : Tree L) → slice_get ts k ≡ Some t → Fork (Equal f v) shows.yes_tree shows.no_tree ≡ t
    same_number t at = one_at ts k (Fork (Equal f v) shows.yes_tree shows.no_tree) t shows.is at

    -- the number is lawful
    pub number_narrow : is_address f ≡ false
    number_narrow = number_diagram.lawful.0.0

    -- and one of the field
    pub number_room : v < 2 ^ width_of f
    number_room = number_diagram.lawful.0.1

    -- the field's numbers go on from 0 here
    pub number_clear : (p : Numbers) → IsFirstAt ts k p → IsClear f p
    number_clear p first = (first (Fork (Equal f v) shows.yes_tree shows.no_tree) shows.is).0

    -- with all of its room
    pub number_goes_on : (t : Tree L) → slice_get ts k ≡ Some t → GoesOn f (Some 0) t
    number_goes_on t at =
        subst (λ u. GoesOn f (Some 0) u) (same_number t at)
        (record { asks = inr (refl, omega arith); room = omega (arith, number_diagram.fits f) })

    -- the weight at the first of the numbers
    weight_here : visit_from_weight f (slice_get ts k) ≡ 2 * size (Fork (Equal f v) shows.yes_tree shows.no_tree)
    weight_here = rw (shows.is, own_rank f) refl

    -- it is below that of a visit
    pub number_lighter : visit_from_weight f (slice_get ts k) < visit_weight (slice_get ts k)
    number_lighter = rw (weight_here, shows.is) (omega arith)

    -- a visit of the numbers visits the node
    pub number_visited : (p : Numbers) → Fit p → IsFirstAt ts k p → (old new : List Least) (before after : List Bool)
        → ((t : Tree L) → slice_get ts k ≡ Some t → VisitsFrom ts t f (Some 0) p old before new after) → (t : Tree L)
        → slice_get ts k ≡ Some t → Visits ts t p old before new after
    number_visited p fit first old new before after visit t at =
        subst (λ u. Visits ts u p old before new after) (same_number t at)
        (λ root sound ready leads. number_searched ts root f v shows.yes_tree shows.no_tree p old new before after fit
        (first (Fork (Equal f v) shows.yes_tree shows.no_tree) shows.is)
        (visit (Fork (Equal f v) shows.yes_tree shows.no_tree) shows.is) sound ready leads)

    -- a packet with a whole number is the first after it
    whole_begins : (p : Numbers) → IsClear f p → (m : ℕ) → Begins f 1 (with_number f m p)
    whole_begins p clear m = (clear_with f m p clear, mod-one (number_in f (with_number f m p)))

    -- it is so at the yes side
    pub value_first : (p : Numbers) → IsClear f p → (q : Numbers) → q ≡ with_number f v p → IsFirstAt ts i q
    value_first p clear q is t at = subst (λ x. IsFirst t x) (sym is) (subst (λ u. IsFirst u (with_number f v p)) (one_at ts i shows.yes_tree t shows.yes_is at)
        (first_inside f 1 shows.yes_tree (with_number f v p)
        (yes_of_number f v shows.yes_tree number_diagram.lawful.0 number_diagram.lawful.1 number_diagram.ascends.0
        number_diagram.asks_once.0) (whole_begins p clear v)))

    -- and at what is after the numbers
    pub rest_first : (p : Numbers) → IsClear f p → (free r : ℕ) → IsPastAt ts (Equal f v) k r → (q : Numbers) → q ≡ with_number f free p → IsFirstAt ts r q
    rest_first p clear free r past q is t at =
        subst (λ x. IsFirst t x) (sym is)
        (subst (λ u. IsFirst u (with_number f free p))
        (one_at ts r (rest f (Fork (Equal f v) shows.yes_tree shows.no_tree)) t
        (past (Fork (Equal f v) shows.yes_tree shows.no_tree) shows.is) at)
        (first_inside f 1 (rest f (Fork (Equal f v) shows.yes_tree shows.no_tree)) (with_number f free p)
        (rest_inside f v (Fork (Equal f v) shows.yes_tree shows.no_tree)
        (inr (refl, omega arith)) number_diagram.lawful number_diagram.ascends) (whole_begins p clear free)))

    -- the field's numbers go on after this one
    pub none_goes_on : (t : Tree L) → slice_get ts j ≡ Some t → GoesOn f None t
    none_goes_on t at = subst (λ u. GoesOn f None u) (one_at ts j shows.no_tree t shows.no_is at) (record {
      asks = asks_less f 0 (suc v) shows.no_tree (omega arith)
          (no_of_number f v shows.no_tree number_diagram.lawful.0 number_diagram.lawful.2 number_diagram.ascends.1);
      room = tt;
    })

    -- one number less is tested on the no side
    most_here : suc (most f shows.no_tree) ≤ most f (Fork (Equal f v) shows.yes_tree shows.no_tree)
    most_here = rw (own_rank f) (omega arith)

    -- so do they with one number less of room
    pub next_goes_on : (gap : Option ℕ) → ((t : Tree L) → slice_get ts k ≡ Some t → GoesOn f gap t) → (t : Tree L) → slice_get ts j ≡ Some t
        → GoesOn f (raised gap) t
    next_goes_on None goes_on t at = none_goes_on t at
    next_goes_on (Some free) goes_on t at =
        let own : GoesOn f (Some free) (Fork (Equal f v) shows.yes_tree shows.no_tree) = goes_on (Fork (Equal f v) shows.yes_tree shows.no_tree) shows.is in
        subst (λ u. GoesOn f (Some (free + 1)) u) (one_at ts j shows.no_tree t shows.no_is at) (record {
          asks = asks_less f 0 (suc v) shows.no_tree (omega arith)
              (no_of_number f v shows.no_tree number_diagram.lawful.0 number_diagram.lawful.2 number_diagram.ascends.1);
          room = omega (arith, own.room, most_here);
        })

    -- the gap's number is one of the field
    pub gap_room : (gap : Option ℕ) (free : ℕ) → gap ≡ Some free → ((t : Tree L) → slice_get ts k ≡ Some t → GoesOn f gap t) → free < 2 ^ width_of f
    gap_room gap free is goes_on =
        let own : GoesOn f (Some free) (Fork (Equal f v) shows.yes_tree shows.no_tree) =
        subst (λ g. GoesOn f g (Fork (Equal f v) shows.yes_tree shows.no_tree)) is
        (goes_on (Fork (Equal f v) shows.yes_tree shows.no_tree) shows.is) in
        half_below f free (omega (arith, own.room))

    -- the next number fits its type
    pub next_room : (gap : Option ℕ) → ((t : Tree L) → slice_get ts k ≡ Some t → GoesOn f gap t) → IfSome gap (λ free. free + 1 < 2 ^ 64)
    next_room None goes_on = tt
    next_room (Some free) goes_on =
        let own : GoesOn f (Some free) (Fork (Equal f v) shows.yes_tree shows.no_tree) = goes_on (Fork (Equal f v) shows.yes_tree shows.no_tree) shows.is in
        let wide : 2 ^ width_of f ≤ 2 ^ 64 = pow_mono (narrow_width f (or_parts (is_prefixed f) (is_wide f) number_narrow).1) in
        lt_of_lt_of_le (half_below f (free + 1) (omega (arith, own.room, most_here))) wide

    -- the yes side weighs less
    pub yes_falls : visit_weight (slice_get ts i) < visit_from_weight f (slice_get ts k)
    yes_falls = rw (weight_here, shows.yes_is) (omega arith)

    -- so does what is after the numbers
    pub rest_falls : (r : ℕ) → IsPastAt ts (Equal f v) k r → visit_weight (slice_get ts r) < visit_from_weight f (slice_get ts k)
    rest_falls r past =
        let at : slice_get ts r ≡ Some (rest f shows.no_tree) = past (Fork (Equal f v) shows.yes_tree shows.no_tree) shows.is
        ∙ ap (λ b. Some (if b then rest f shows.no_tree else Fork (Equal f v) shows.yes_tree shows.no_tree)) (own_rank f) in
        rw (weight_here, at) (omega (arith, size_rest f shows.no_tree, size_some shows.yes_tree))

    -- so does the no side
    pub no_falls : visit_from_weight f (slice_get ts j) < visit_from_weight f (slice_get ts k)
    no_falls = rw (weight_here, shows.no_is) (omega (arith, from_most f shows.no_tree, size_some shows.yes_tree))

    -- the sides are visited, with what is after the numbers before them
    pub gap_visited : (p : Numbers) → IsClear f p → (l : ℕ) → l ≡ k → (gap : Option ℕ) (free : ℕ) → (gap ≡ Some free) × (free < v) → (r : ℕ)
        → IsPastAt ts (Equal f v) k r → (q : Numbers) → q ≡ with_number f free p → (o : Numbers) → o ≡ with_number f v p
        → (old first mid new : List Least) (before begun middle after : List Bool) → length after ≡ length ts
        → ((t : Tree L) → slice_get ts r ≡ Some t → Visits ts t q old before first begun)
        → ((t : Tree L) → slice_get ts i ≡ Some t → Visits ts t o first begun mid middle)
        → ((t : Tree L) → slice_get ts j ≡ Some t → VisitsFrom ts t f None p mid middle new after) → (t : Tree L) → slice_get ts k ≡ Some t
        → VisitsFrom ts t f gap p old before new (set after l true)
    gap_visited p clear l place gap free own r past q at_free o at_value old first mid new before begun middle after long visit_rest visit_yes visit_no t at =
        subst (λ m. VisitsFrom ts t f gap p old before new (set after m true)) (sym place)
        (subst (λ u. VisitsFrom ts u f gap p old before new (set after k true)) (same_number t at)
        (subst (λ g. VisitsFrom ts (Fork (Equal f v) shows.yes_tree shows.no_tree) f g p old before new (set after k true)) (sym own.0)
        (λ root from asks. gap_searched ts root f v shows.yes_tree shows.no_tree p number_diagram clear free k old first mid new before
        begun middle after own.1 shows.is
        (subst (λ m. k < m) (sym long) (slice_get_within ts k (Fork (Equal f v) shows.yes_tree shows.no_tree) shows.is))
        (subst (λ x. Visits ts (rest f (Fork (Equal f v) shows.yes_tree shows.no_tree)) x old before first begun) at_free
        (visit_rest (rest f (Fork (Equal f v) shows.yes_tree shows.no_tree))
        (past (Fork (Equal f v) shows.yes_tree shows.no_tree) shows.is)))
        (subst (λ x. Visits ts shows.yes_tree x first begun mid middle) at_value (visit_yes shows.yes_tree shows.yes_is))
        (visit_no shows.no_tree shows.no_is) from)))

    -- the sides are visited
    pub next_visited : (p : Numbers) → IsClear f p → (l : ℕ) → l ≡ k → (gap : Option ℕ) → IfSome gap (λ free. v ≤ free)
        → (after_gap : Option ℕ) → after_gap ≡ raised gap → (o : Numbers) → o ≡ with_number f v p
        → (old mid new : List Least) (before middle after : List Bool) → length after ≡ length ts
        → ((t : Tree L) → slice_get ts i ≡ Some t → Visits ts t o old before mid middle)
        → ((t : Tree L) → slice_get ts j ≡ Some t → VisitsFrom ts t f after_gap p mid middle new after) → (t : Tree L)
        → slice_get ts k ≡ Some t → VisitsFrom ts t f gap p old before new (set after l true)
    next_visited p clear l place gap none after_gap is_next o at_value old mid new before middle after long visit_yes visit_no t at =
        subst (λ m. VisitsFrom ts t f gap p old before new (set after m true)) (sym place)
        (subst (λ u. VisitsFrom ts u f gap p old before new (set after k true)) (same_number t at)
        (λ root from. next_searched ts root f v shows.yes_tree shows.no_tree p number_diagram clear gap k old mid new before middle after none shows.is
        (subst (λ m. k < m) (sym long) (slice_get_within ts k (Fork (Equal f v) shows.yes_tree shows.no_tree) shows.is))
        (subst (λ x. Visits ts shows.yes_tree x old before mid middle) at_value (visit_yes shows.yes_tree shows.yes_is))
        (subst (λ g. VisitsFrom ts shows.no_tree f g p mid middle new after) is_next (visit_no shows.no_tree shows.no_is)) from))

  module _ (ts : List (Tree L)) (k : ℕ) (f : Field) (gap : Option ℕ) (p : Numbers) (within : k < length ts) (diagrams : AreDiagrams ts)
      (none : (t : Tree L) → slice_get ts k ≡ Some t → begins f t ≡ false) (goes_on : (t : Tree L) → slice_get ts k ≡ Some t
      → GoesOn f gap t) (clear : IsClear f p) where
    -- the gap's number is one of the field
    pub last_room : (free : ℕ) → gap ≡ Some free → free < 2 ^ width_of f
    last_room free is =
        let h = tree_there ts k within in
        let own : GoesOn f (Some free) h.0 = subst (λ g. GoesOn f g h.0) is (goes_on h.0 h.1) in
        half_below f free (omega (arith, own.room))

    -- with it the packet is the first after the field's numbers
    pub last_first : (free : ℕ) (q : Numbers) → q ≡ with_number f free p → IsFirstAt ts k q
    last_first free q is t at = subst (λ x. IsFirst t x) (sym is)
        (first_inside f 1 t (with_number f free p)
        (subst (λ u. Inside f 1 u) (rest_same f t (none t at)) (rest_inside f 0 t (goes_on t at).asks (diagrams k t at).lawful (diagrams k t at).ascends))
        (clear_with f free p clear, mod-one (number_in f (with_number f free p))))

    -- a visit weighs less there
    pub last_falls : visit_weight (slice_get ts k) < visit_from_weight f (slice_get ts k)
    last_falls = let h = tree_there ts k within in rw (h.1, none h.0 h.1) (omega arith)

    -- it is visited with the gap's number
    pub last_visited : (free : ℕ) → gap ≡ Some free → (q : Numbers) → q ≡ with_number f free p
        → (old new : List Least) (before after : List Bool) → ((t : Tree L) → slice_get ts k ≡ Some t → Visits ts t q old before new after)
        → (t : Tree L) → slice_get ts k ≡ Some t → VisitsFrom ts t f gap p old before new after
    last_visited free own q is old new before after visit t at =
        subst (λ g. VisitsFrom ts t f g p old before new after) (sym own)
        (λ root from. last_searched ts root f t p free old new before after (none t at) (diagrams k t at)
        (subst (λ x. Visits ts t x old before new after) is (visit t at)) from)

    -- nothing is left where what is after them is found
    pub none_visited : gap ≡ None → (old : List Least) (before : List Bool) → (t : Tree L) → slice_get ts k ≡ Some t
        → VisitsFrom ts t f gap p old before old before
    none_visited own old before t at =
        subst (λ g. VisitsFrom ts t f g p old before old before) (sym own)
        (λ root from asks behind sound ready leads. nothing_left ts root t (λ x. Agrees f x p) old before
        (subst (λ u. AreFound ts old u) (rest_same f t (none t at)) behind) sound)

  -- a place that is marked is visited no more
  pub seen_visited : (ts : List (Tree L)) (k : ℕ) (p : Numbers) (old : List Least) (before : List Bool) → IsSeen before k → (t : Tree L)
      → slice_get ts k ≡ Some t → Visits ts t p old before old before
  seen_visited ts k p old before seen t at root sound ready leads = nothing_left ts root t (λ x. Reaching t x p) old before (sound.settled k t seen at) sound

  -- nor are its numbers
  pub seen_visited_from : (ts : List (Tree L)) (k : ℕ) (f : Field) (gap : Option ℕ) (p : Numbers) (old : List Least) (before : List Bool)
      → IsSeen before k → (t : Tree L) → slice_get ts k ≡ Some t → VisitsFrom ts t f gap p old before old before
  seen_visited_from ts k f gap p old before seen t at root from asks own sound ready leads =
      nothing_left ts root t (λ x. Agrees f x p) old before (sound.settled k t seen at) sound

  -- a leaf is visited by putting it to those found
  pub leaf_visited : (ts : List (Tree L)) (k : ℕ) (l : L) (p : Numbers) → slice_get ts k ≡ Some (Tip l) → IsCanonical ts → Fit p → (j : ℕ)
      → j ≡ k → (old new : List Least) (before : List Bool) → length before ≡ length ts → get_or before k false ≡ false
      → new ≡ old ++ record { packet = p; leaf = k } ∷ [] → (t : Tree L) → slice_get ts k ≡ Some t
      → Visits ts t p old before new (set before j true)
  leaf_visited ts k l p is canonical fit j place old new before long fresh grown t at =
      subst (λ m. Visits ts t p old before new (set before m true)) (sym place)
      (subst (λ found. Visits ts t p old before found (set before k true)) (sym grown)
      (subst (λ u. Visits ts u p old before (old ++ record { packet = p; leaf = k } ∷ []) (set before k true)) (one_at ts k (Tip l) t is at)
      (λ root sound ready leads. leaf_searched ts root old before k l p (subst (λ m. k < m) (sym long) (slice_get_within ts k (Tip l) is))
      is (one_tip ts canonical) fresh fit sound ready leads)))
