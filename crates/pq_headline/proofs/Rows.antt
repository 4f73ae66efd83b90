-- The row of a tag has the instances that hold its words.
use Rattle.std.proofs.Common.{◌≡◌, ◌≢◌, ◌∙◌, ◌+◌, ◌≤◌, zero, suc, ℕ, Bool, true, false, cond, not, ◌==◌, if◌then◌else◌, List, [], ◌∷◌, ◌++◌}
use Rattle.std.proofs.Common.{map, filter, refl, sym, ap, subst, inl, inr, arith}
use Rattle.std.specs.Prelude.{◌↔◌, slice_get}
use Rattle.std.specs.List.{Contains, cons_option, filter_map}
use Rattle.std.specs.declared.option.Option.{Option}
use Rattle.std.specs.declared.option.Option.TheVariants.{None, Some}
use Rattle.std.proofs.lemmas.Bool.{true≢false, cases_lt}
use Rattle.std.proofs.lemmas.Bool.Decides.{nat_tests}
use Rattle.std.proofs.lemmas.List.Elements.{filter_map-append}
use Rattle.std.proofs.lemmas.Option.{none-some, same_Some}
use Rattle.pq_model.specs.Buckets.{Instance}
use Rattle.pq_model.specs.Install.{AscendsBy}
use Rattle.pq_model.specs.Lawful.{Ascends}
use Rattle.pq_model.specs.Orders.{IsReordering}
use Rattle.pq_model.specs.TablesMachine.{Row, pairs_of}
use Rattle.pq_layout.specs.Emission.{instances_at, report_of}
use Rattle.pq_layout.specs.Tagging.{Tagging, captures, is_empty, up_to}
use Rattle.pq_headline.proofs.Departed.{ascending_apart}
use Rattle.pq_headline.proofs.Members.{StandsIn, AreApart, among_from_contains, among_left, among_right, contains_from_among, same_members}

-- The row.

pub among_up_to : (n t : ℕ) → 1 ≤ t → t ≤ n → StandsIn t (up_to n)
among_up_to zero t low high = omega arith
among_up_to (suc n) t low high = elim (cases_lt n t) [
  | inl last ↦ among_right t (up_to n) (suc n ∷ []) (inl (omega arith))
  | inr before ↦ among_left t (up_to n) (suc n ∷ []) (among_up_to n t low before)
]

module _ {A : Type 0} (p : A → Bool) where
  pub among_filter : (z : A) (xs : List A) → p z ≡ true → StandsIn z xs → StandsIn z (filter p xs)
  among_filter z [] passes there = there
  among_filter z (x ∷ xs) passes (inl is) = by (p x) (ap p (sym is) ∙ passes)
    where
      by : (b : Bool) → b ≡ true → StandsIn z (cond b (x ∷ filter p xs) (filter p xs))
      by true e = inl is
      by false e = absurd (true≢false (sym e))
  among_filter z (x ∷ xs) passes (inr there) = by (p x) (among_filter z xs passes there)
    where
      by : (b : Bool) → StandsIn z (filter p xs) → StandsIn z (cond b (x ∷ filter p xs) (filter p xs))
      by true more = inr more
      by false more = more

-- rows with these instances of each tag
abbrev row_of : (ℕ → List Instance) → ℕ → Row
row_of pairs t = record { tag = t; pairs = pairs t }

row_found : (pairs : ℕ → List Instance) (ts : List ℕ) (t : ℕ) → StandsIn t ts → pairs_of (map (row_of pairs) ts) t ≡ pairs t
row_found pairs [] t there = absurd there
row_found pairs (s ∷ ts) t there = by (s == t) refl there (row_found pairs ts t)
  where
    by : (b : Bool) → (s == t) ≡ b → StandsIn t (s ∷ ts) → (StandsIn t ts → pairs_of (map (row_of pairs) ts) t ≡ pairs t)
        → (if b then pairs s else pairs_of (map (row_of pairs) ts) t) ≡ pairs t
    by true same there more = let is : s ≡ t = grind (arith, nat_tests) in ap pairs is
    by false same (inl is) more = let apart : s ≢ t = grind (arith, nat_tests) in absurd (apart (sym is))
    by false same (inr there) more = more there

-- a tag that is captured has a row
pub row_of_tag : (g : Tagging) (instances : List Instance) (t : ℕ) → 1 ≤ t → t ≤ g.count → captures g t ≡ true
    → pairs_of (report_of g instances) t ≡ instances_at instances (g.accepted t)
row_of_tag g instances t low high caught =
    row_found (λ t. instances_at instances (g.accepted t)) (filter (captures g) (up_to g.count)) t
    (among_filter (captures g) t (up_to g.count) caught (among_up_to g.count t low high))

-- and one that isn't has no instances
pub none_of_tag : (instances : List Instance) (is : List ℕ) → not (is_empty is) ≡ false → [] ≡ instances_at instances is
none_of_tag instances [] e = refl
none_of_tag instances (i ∷ is) e = absurd (true≢false e)

-- The instances.

module _ {A B : Type 0} (h : A → Option B) where
  reordering-filter_map : (xs ys : List A) → IsReordering xs ys → IsReordering (filter_map h xs) (filter_map h ys)
  reordering-filter_map [] ys h' = ap (filter_map h) h'
  reordering-filter_map (x ∷ xs) ys (front, back, is, h') =
      let more : IsReordering (filter_map h xs) (filter_map h front ++ filter_map h back) =
      subst (IsReordering (filter_map h xs)) (filter_map-append h front back) (reordering-filter_map xs (front ++ back) h') in
      let whole : filter_map h ys ≡ filter_map h front ++ filter_map h (x ∷ back) = ap (filter_map h) is ∙ filter_map-append h front (x ∷ back) in
      subst (IsReordering (filter_map h (x ∷ xs))) (sym whole) (by (h x) more)
    where
      by : (o : Option B) → IsReordering (filter_map h xs) (filter_map h front ++ filter_map h back)
          → IsReordering (cons_option o (filter_map h xs)) (filter_map h front ++ cons_option o (filter_map h back))
      by None more = more
      by (Some y) more = (filter_map h front, filter_map h back, refl, more)

-- the numbers, from one on, of the instances that pass
abbrev numbers_from : (Instance → Bool) → ℕ → List Instance → List ℕ
numbers_from p k [] = []
numbers_from p k (i ∷ is) = cond (p i) (k ∷ numbers_from p (suc k) is) (numbers_from p (suc k) is)

-- the instance of this number passes
abbrev Passes : (Instance → Bool) → List Instance → ℕ → Type 0
Passes p is n = (i : Instance) × (slice_get is n ≡ Some i) × (p i ≡ true)

module _ (p : Instance → Bool) where
  numbered : (k n : ℕ) (is : List Instance) → Passes p is n → StandsIn (k + n) (numbers_from p k is)
  numbered k n [] (i, at, passes) = absurd (none-some i at)
  numbered k zero (j ∷ is) (i, at, passes) = by (p j) (ap p (same_Some j i at) ∙ passes)
    where
      by : (b : Bool) → b ≡ true → StandsIn (k + zero) (cond b (k ∷ numbers_from p (suc k) is) (numbers_from p (suc k) is))
      by true e = inl (omega arith)
      by false e = absurd (true≢false (sym e))
  numbered k (suc n) (j ∷ is) (i, at, passes) =
      let same : suc k + n ≡ k + suc n = omega arith in
      by (p j) (subst (λ m. StandsIn m (numbers_from p (suc k) is)) same (numbered (suc k) n is (i, at, passes)))
    where
      by : (b : Bool) → StandsIn (k + suc n) (numbers_from p (suc k) is)
          → StandsIn (k + suc n) (cond b (k ∷ numbers_from p (suc k) is) (numbers_from p (suc k) is))
      by true more = inr more
      by false more = more

  -- a number stands for an instance that passes
  abbrev StandsFor : ℕ → ℕ → List Instance → Type 0
  StandsFor k m is = (n : ℕ) × (m ≡ k + n) × Passes p is n

  one_later : (k m : ℕ) (j : Instance) (is : List Instance) → StandsFor (suc k) m is → StandsFor k m (j ∷ is)
  one_later k m j is (n, same, passes) = (suc n, omega arith, passes)

  counted : (k m : ℕ) (is : List Instance) → StandsIn m (numbers_from p k is) → StandsFor k m is
  counted k m [] there = absurd there
  counted k m (j ∷ is) there = by (p j) refl there (λ there. one_later k m j is (counted (suc k) m is there))
    where
      by : (b : Bool) → p j ≡ b → StandsIn m (cond b (k ∷ numbers_from p (suc k) is) (numbers_from p (suc k) is))
          → (StandsIn m (numbers_from p (suc k) is) → StandsFor k m (j ∷ is)) → StandsFor k m (j ∷ is)
      by true e (inl is) more = (zero, omega arith, (j, refl, e))
      by true e (inr there) more = more there
      by false e there more = more there

  numbers_apart : (k : ℕ) (is : List Instance) → AreApart (numbers_from p k is)
  numbers_apart k [] = tt
  numbers_apart k (j ∷ is) = by (p j) (numbers_apart (suc k) is)
    where
      by : (b : Bool) → AreApart (numbers_from p (suc k) is) → AreApart (cond b (k ∷ numbers_from p (suc k) is) (numbers_from p (suc k) is))
      by true more = (λ there. (let later = counted (suc k) k is there in omega (arith, later.1)), more)
      by false more = more

  -- the instances of these numbers are those that pass
  passing : (all : List Instance) (k : ℕ) (is : List Instance) → ((n : ℕ) → slice_get all (k + n) ≡ slice_get is n)
      → filter_map (slice_get all) (numbers_from p k is) ≡ filter p is
  passing all k [] at = refl
  passing all k (j ∷ is) at = by (p j) (passing all (suc k) is (λ n. (let same : suc k + n ≡ k + suc n = omega arith in ap (slice_get all) same) ∙ at (suc n)))
    where
      here : slice_get all k ≡ Some j
      here = (let same : k ≡ k + zero = omega arith in ap (slice_get all) same) ∙ at zero

      by : (b : Bool) → filter_map (slice_get all) (numbers_from p (suc k) is) ≡ filter p is
          → filter_map (slice_get all) (cond b (k ∷ numbers_from p (suc k) is) (numbers_from p (suc k) is)) ≡ cond b (j ∷ filter p is) (filter p is)
      by true more = (λ i. cons_option (here i) (more i))
      by false more = more

ascends_by_number : (ns : List ℕ) → Ascends ns → AscendsBy (λ (n : ℕ). n ∷ []) ns
ascends_by_number [] up = tt
ascends_by_number (n ∷ []) up = tt
ascends_by_number (n ∷ m ∷ ns) up = (grind (arith, nat_tests, up.0), ascends_by_number (m ∷ ns) up.1)

-- ascending numbers, of just the instances that pass, give these instances
pub instances_of_numbers : (p : Instance → Bool) (all : List Instance) (ns : List ℕ) → Ascends ns
    → ((n : ℕ) → Contains ns n ↔ Passes p all n) → IsReordering (instances_at all ns) (filter p all)
instances_of_numbers p all ns up exact =
    let own = numbers_from p zero all in
    let into : (n : ℕ) → StandsIn n ns → StandsIn n own = λ n there.
    let same : zero + n ≡ n = omega arith in
    subst (λ m. StandsIn m own) same (numbered p zero n all ((exact n).0 (contains_from_among ns n there))) in
    let back : (n : ℕ) → StandsIn n own → StandsIn n ns = λ n there.
    let told = counted p zero n all there in
    let same : told.0 ≡ n = omega (arith, told.1) in
    among_from_contains ns n ((exact n).1 (subst (Passes p all) same told.2)) in
    let mixed = same_members ns own (ascending_apart (λ (n : ℕ). n ∷ []) ns (ascends_by_number ns up)) (numbers_apart p zero all) into back in
    subst (IsReordering (instances_at all ns)) (passing p all zero all (λ n. let same : zero + n ≡ n = omega arith in
    ap (slice_get all) same)) (reordering-filter_map (slice_get all) ns own mixed)
