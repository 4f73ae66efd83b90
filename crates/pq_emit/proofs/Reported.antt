-- The rows of a report.
use Rattle.std.proofs.Common.{◌≡◌, ◌≢◌, ◌<◌, ◌≤◌, ◌+◌, ◌-◌, ◌∙◌, ℕ, zero, suc, Bool, true, false, cond, not, if◌then◌else◌, []}
use Rattle.std.proofs.Common.{List, ◌∷◌, ◌++◌, length, map, filter, take, get_or, refl, sym, ap, ap₂, subst, arith}
use Rattle.std.specs.Prelude.{All, Some, slice_get}
use Rattle.std.specs.List.{cons_option, filter_map}
use Rattle.std.proofs.lemmas.List.{append-nil, map-append, take_more}
use Rattle.std.proofs.lemmas.List.Elements.{All-nil, All-cons, All-head, All-tail, All-append, All-weaker, filter-append, filter_map-append}
use Rattle.std.proofs.lemmas.Option.{get_or_from_slice_get, none-some, same_Some, slice_get-get_or}
use Rattle.pq_auto.specs.Machine.{Machine, accepted_at}
use Rattle.pq_fields.specs.Packet.{is_before}
use Rattle.pq_lists.proofs.Places.{at_place}
use Rattle.pq_join.specs.Tags.{captures_at, tagging_of}
use Rattle.pq_layout.specs.Emission.{instances_at, report_of}
use Rattle.pq_layout.specs.Tagging.{is_empty, up_to}
use Rattle.pq_letters.specs.Letters.{LettersValue}
use Rattle.pq_model.specs.Buckets.{Instance, instance_numbers}
use Rattle.pq_model.specs.Install.{AscendsBy, IsLawfulPair, IsLawfulRow}
use Rattle.pq_model.specs.Lawful.{Ascends}
use Rattle.pq_model.specs.TablesMachine.{Row}
use Rattle.pq_model.proofs.NumberLists.{before_trans}
use Rattle.pq_model.proofs.Ascending.{ascend_push, rest_ascends}
use Rattle.pq_emit.specs.Held.{AreHeldBelow, AreInstances, report_to, row_at}

-- The report.

abbrev row_of : Machine → List Instance → ℕ → Row
row_of m is t = record { tag = t; pairs = instances_at is (accepted_at m (t - 1)) }

one_row : (m : Machine) (is : List Instance) (c : ℕ) → map (row_of m is) (filter (λ t. captures_at m (t - 1)) (suc c ∷ [])) ≡ row_at m is c
one_row m is c =
    let back : suc c - 1 ≡ c = omega arith in
    by (captures_at m (suc c - 1)) ∙ ap rows back
  where
    rows : ℕ → List Row
    rows d = if captures_at m d then record { tag = suc c; pairs = instances_at is (accepted_at m d) } ∷ [] else []

    by : (b : Bool) → map (row_of m is) (cond b (suc c ∷ []) [])
        ≡ (if b then record { tag = suc c; pairs = instances_at is (accepted_at m (suc c - 1)) } ∷ [] else [])
    by true = refl
    by false = refl

rows_to : (m : Machine) (is : List Instance) (c : ℕ) → map (row_of m is) (filter (λ t. captures_at m (t - 1)) (up_to c)) ≡ report_to m is c
rows_to m is zero = refl
rows_to m is (suc c) =
    ap (map (row_of m is)) (filter-append (λ t. captures_at m (t - 1)) (up_to c) (suc c ∷ []))
    ∙ map-append (row_of m is) (filter (λ t. captures_at m (t - 1)) (up_to c)) (filter (λ t. captures_at m (t - 1)) (suc c ∷ []))
    ∙ ap₂ (λ xs ys. xs ++ ys) (rows_to m is c) (one_row m is c)

-- the rows of all classes are the report of their tags
pub reported : (m : Machine) (is : List Instance) (a : LettersValue) → report_to m is (length m.rows) ≡ report_of (tagging_of a m) is
reported m is a = sym (rows_to m is (length m.rows))

-- one instance more
pub one_instance : (xs : List Instance) (ns : List ℕ) (k : ℕ) (x : Instance) → k < length ns → get_or ns k 0 < length xs → x ≡ get_or xs (get_or ns k 0) x
    → instances_at xs (take (k + 1) ns) ≡ instances_at xs (take k ns) ++ x ∷ []
one_instance xs ns k x within below is =
    let n = get_or ns k 0 in
    ap (instances_at xs) (take_more ns k 0 within)
    ∙ filter_map-append (slice_get xs) (take k ns) (n ∷ [])
    ∙ ap (λ o. instances_at xs (take k ns) ++ cons_option o []) (slice_get-get_or xs n x below ∙ ap Some (sym is))

-- Instances that ascend.

module _ {A : Type 0} (key : A → List ℕ) where
  -- the first is before each later one
  first_before : (x : A) (xs : List A) (j : ℕ) (y : A) → AscendsBy key (x ∷ xs) → slice_get xs j ≡ Some y → is_before (key x) (key y) ≡ true
  first_before x [] j y ascend at = absurd (none-some y at)
  first_before x (z ∷ zs) zero y ascend at = subst (λ w. is_before (key x) (key w) ≡ true) (same_Some z y at) ascend.0
  first_before x (z ∷ zs) (suc j) y ascend at = before_trans (key x) (key z) (key y) ascend.0 (first_before z zs j y ascend.1 at)

  before_at : (xs : List A) (i j : ℕ) (x y : A) → AscendsBy key xs → i < j → slice_get xs i ≡ Some x → slice_get xs j ≡ Some y
      → is_before (key x) (key y) ≡ true
  before_at [] i j x y ascend below at_x at_y = absurd (none-some x at_x)
  before_at (z ∷ zs) zero zero x y ascend below at_x at_y = absurd (omega (arith, below))
  before_at (z ∷ zs) zero (suc j) x y ascend below at_x at_y =
      subst (λ w. is_before (key w) (key y) ≡ true) (same_Some z x at_x) (first_before z zs j y ascend at_y)
  before_at (z ∷ zs) (suc i) zero x y ascend below at_x at_y = absurd (omega (arith, below))
  before_at (z ∷ zs) (suc i) (suc j) x y ascend below at_x at_y = before_at zs i j x y (rest_ascends key z zs ascend) (omega (arith, below)) at_x at_y

  -- those at ascending places ascend
  ascend_at : (xs : List A) → AscendsBy key xs → (is : List ℕ) → Ascends is → All (λ i. i < length xs) is → AscendsBy key (filter_map (slice_get xs) is)
  ascend_at xs ascend [] places below = tt
  ascend_at xs ascend (i ∷ []) places below =
      let one = at_place xs i (All-head (λ i. i < length xs) i [] below) in
      subst (λ o. AscendsBy key (cons_option o [])) (sym one.1) tt
  ascend_at xs ascend (i ∷ j ∷ js) places below =
      let one = at_place xs i (All-head (λ i. i < length xs) i (j ∷ js) below) in
      let later = All-tail (λ i. i < length xs) i (j ∷ js) below in
      let two = at_place xs j (All-head (λ i. i < length xs) j js later) in
      let rest = filter_map (slice_get xs) js in
      let tail : AscendsBy key (two.0 ∷ rest) = subst (λ o. AscendsBy key (cons_option o rest)) two.1 (ascend_at xs ascend (j ∷ js) places.1 later) in
      let before = before_at xs i j one.0 two.0 ascend places.0 one.1 two.1 in
      subst (λ o. AscendsBy key (cons_option o (cons_option (slice_get xs j) rest))) (sym one.1)
      (subst (λ o. AscendsBy key (one.0 ∷ cons_option o rest)) (sym two.1) (before, tail))

  -- what holds of all holds of those at places
  all_at : (P : A → Type 0) (xs : List A) → All P xs → (is : List ℕ) → All (λ i. i < length xs) is → All P (filter_map (slice_get xs) is)
  all_at P xs all [] below = All-nil P
  all_at P xs all (i ∷ is) below =
      let within = All-head (λ i. i < length xs) i is below in
      let one = at_place xs i within in
      let is_one : P one.0 = subst P (get_or_from_slice_get xs i one.0 one.0 one.1) (all i one.0 within) in
      subst (λ o. All P (cons_option o (filter_map (slice_get xs) is))) (sym one.1)
      (All-cons P one.0 (filter_map (slice_get xs) is) is_one (all_at P xs all is (All-tail (λ i. i < length xs) i is below)))

  -- there are as many as places
  long_at : (xs : List A) (is : List ℕ) → All (λ i. i < length xs) is → length (filter_map (slice_get xs) is) ≡ length is
  long_at xs [] below = refl
  long_at xs (i ∷ is) below =
      let one = at_place xs i (All-head (λ i. i < length xs) i is below) in
      ap (λ o. length (cons_option o (filter_map (slice_get xs) is))) one.1 ∙ ap suc (long_at xs is (All-tail (λ i. i < length xs) i is below))

-- ascending numbers below a number are no more than it
long_from : (n i : ℕ) (is : List ℕ) → Ascends (i ∷ is) → All (λ i. i < n) (i ∷ is) → i + suc (length is) ≤ n
long_from n i [] ascend below = let h = All-head (λ i. i < n) i [] below in omega (arith, h)
long_from n i (j ∷ js) ascend below =
    let h = long_from n j js ascend.1 (All-tail (λ i. i < n) i (j ∷ js) below) in
    let first = ascend.0 in
    omega (arith, h, first)

few_numbers : (n : ℕ) (is : List ℕ) → Ascends is → All (λ i. i < n) is → length is ≤ n
few_numbers n [] ascend below = omega arith
few_numbers n (i ∷ is) ascend below = let h = long_from n i is ascend below in omega (arith, h)

-- Rows are lawful.

module _ (m : Machine) (xs : List Instance) (queries : ℕ) (few : length m.rows ≤ 4094) (instances : AreInstances queries xs)
    (held : AreHeldBelow (length xs) m) where
  lawful_row : (c : ℕ) → c < length m.rows → All (IsLawfulRow queries) (row_at m xs c)
  lawful_row c within = by (accepted_at m c) (held c within)
    where
      by : (is : List ℕ) → Ascends is × All (λ i. i < length xs) is
          → All (IsLawfulRow queries) (if not (is_empty is) then record { tag = suc c; pairs = instances_at xs is } ∷ [] else [])
      by [] all = All-nil (IsLawfulRow queries)
      by (i ∷ is) all =
          let long = long_at instance_numbers xs (i ∷ is) all.1 in
          let short = few_numbers (length xs) (i ∷ is) all.0 all.1 in
          let most = instances.few in
          let some : instances_at xs (i ∷ is) ≢ [] = λ none. let e = ap length none in absurd (omega (arith, e, long)) in
          All-cons (IsLawfulRow queries) (record { tag = suc c; pairs = instances_at xs (i ∷ is) }) [] (
            omega arith,
            omega (arith, within, few),
            some,
            omega (arith, long, short, most),
            all_at instance_numbers (IsLawfulPair queries) xs instances.lawful (i ∷ is) all.1,
            ascend_at instance_numbers xs instances.ascend (i ∷ is) all.0 all.1,
          ) (All-nil (IsLawfulRow queries))

  lawful_rows : (c : ℕ) → c ≤ length m.rows → All (IsLawfulRow queries) (report_to m xs c)
  lawful_rows zero within = All-nil (IsLawfulRow queries)
  lawful_rows (suc c) within =
      All-append (IsLawfulRow queries) (report_to m xs c) (row_at m xs c) (lawful_rows c (omega (arith, within))) (lawful_row c (omega (arith, within)))

  pub report_lawful : All (IsLawfulRow queries) (report_to m xs (length m.rows))
  report_lawful = lawful_rows (length m.rows) (omega arith)

-- Tags ascend.

module _ (m : Machine) (xs : List Instance) where
  abbrev TagsTo : ℕ → List ℕ → Type 0
  TagsTo c ts = Ascends ts × All (λ s. s < suc c) ts

  more_tags : (c : ℕ) (b : Bool) (pairs : List Instance) (rows : List Row) → TagsTo c (map (λ row. row.tag) rows)
      → TagsTo (suc c) (map (λ row. row.tag) (rows ++ (if b then record { tag = suc c; pairs = pairs } ∷ [] else [])))
  more_tags c true pairs rows tags =
      let tags_of : List Row → List ℕ = map (λ row. row.tag) in
      let wider = All-weaker (λ s. s < suc c) (λ s. s < suc (suc c)) (λ s h. omega (arith, h)) (tags_of rows) tags.1 in
      subst (TagsTo (suc c)) (sym (map-append (λ row. row.tag) rows (record { tag = suc c; pairs = pairs } ∷ []))) (
        ascend_push (tags_of rows) (suc c) tags.0 tags.1,
        All-append (λ s. s < suc (suc c)) (tags_of rows) (suc c ∷ []) wider
            (All-cons (λ s. s < suc (suc c)) (suc c) [] (omega arith) (All-nil (λ s. s < suc (suc c)))),
      )
  more_tags c false pairs rows tags =
      let wider = All-weaker (λ s. s < suc c) (λ s. s < suc (suc c)) (λ s h. omega (arith, h)) (map (λ row. row.tag) rows) tags.1 in
      subst (λ rs. TagsTo (suc c) (map (λ row. row.tag) rs)) (sym (append-nil rows)) (tags.0, wider)

  tags_to : (c : ℕ) → TagsTo c (map (λ row. row.tag) (report_to m xs c))
  tags_to zero = (tt, All-nil (λ s. s < suc zero))
  tags_to (suc c) = more_tags c (captures_at m c) (instances_at xs (accepted_at m c)) (report_to m xs c) (tags_to c)

  pub report_ascends : Ascends (map (λ row. row.tag) (report_to m xs (length m.rows)))
  report_ascends = (tags_to (length m.rows)).0
