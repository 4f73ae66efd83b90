-- The automaton of the classes of the last round says the same, and is the least.
use Rattle.std.proofs.Common.{ℕ, ◌<◌, ◌≡◌, ◌∙◌, inl, inr, List, [], ◌∷◌, length, get_or, refl, sym, ap, arith}
use Rattle.std.specs.Prelude.{true, map}
use Rattle.std.proofs.lemmas.Bool.{cases_lt}
use Rattle.std.proofs.lemmas.List.{get_or-map, length-map}
use Rattle.pq_auto.specs.Machine.{Machine, IsMachine, IsLeastMachine, SaySame, AreSame, AllBelow, follow, reached, is_even_at, accepted_at}
use Rattle.pq_auto.specs.Parts.{Parts, class_of, first_of}
use Rattle.pq_auto.specs.Refinement.{IsLast, row_of, quotient}
use Rattle.pq_auto.proofs.Rounds.{next, next_within, letter_in, follow_within, classes_same, same_parity, same_accepted, class_in}

-- numbers below a bound, taken below another
all_mapped : (n k : ℕ) (f : ℕ → ℕ) (xs : List ℕ) → ((s : ℕ) → s < n → f s < k) → AllBelow n xs → AllBelow k (map f xs)
all_mapped n k f [] h below = tt
all_mapped n k f (x ∷ xs) h below = (h x below.0, all_mapped n k f xs h below.1)

module _ (m : Machine) (p : Parts) (machine : IsMachine m) (last : IsLast m p) where
  -- the first state of a class is a state
  pub first_in : (c : ℕ) → c < length p.firsts → first_of p c < length m.rows
  first_in c h = let within = last.round.parted.within c h in omega (arith, within, last.round.whole)

  -- there are as many rows as classes
  pub count_is : length (quotient m p).rows ≡ length p.firsts
  count_is = length-map p.firsts (λ s. map (class_of p) (row_of m s))

  -- a class has the row of its first state
  row_at : (c : ℕ) → c < length p.firsts → row_of (quotient m p) c ≡ map (class_of p) (row_of m (first_of p c))
  row_at c h = get_or-map (λ s. map (class_of p) (row_of m s)) p.firsts c 0 [] h

  -- the first state of a state's class
  abbrev head : ℕ → ℕ
  head s = first_of p (class_of p s)

  head_in : (s : ℕ) → s < length m.rows → head s < length m.rows
  head_in s h = first_in (class_of p s) (class_in m p last.round s h)

  head_class : (s : ℕ) → s < length m.rows → class_of p (head s) ≡ class_of p s
  head_class s h = last.round.parted.first (class_of p s) (class_in m p last.round s h)

  -- a letter leads from the class of a state to the class of the next one
  step : (s l : ℕ) → s < length m.rows → l < m.letters → get_or (row_of (quotient m p) (class_of p s)) l 0 ≡ class_of p (next m s l)
  step s l h hl =
      ap (λ row. get_or row l 0) (row_at (class_of p s) (class_in m p last.round s h))
      ∙ get_or-map (class_of p) (row_of m (head s)) l 0 0 (letter_in m machine (head s) l (head_in s h) hl)
      ∙ classes_same m machine p (head s) s l (head_in s h) h hl (last.leads (head s) s (head_in s h) h (head_class s h))

  -- and so does a word
  pub follows : (w : List ℕ) (s : ℕ) → AllBelow m.letters w → s < length m.rows → follow (quotient m p).rows (class_of p s) w ≡ class_of p (follow m.rows s w)
  follows [] s below h = refl
  follows (l ∷ w) s below h =
      ap (λ c. follow (quotient m p).rows c w) (step s l h below.0)
      ∙ follows w (next m s l) below.1 (next_within m machine s l h below.0)

  -- a class has the parity of its states, and accepts what they do
  even_at : (s : ℕ) → s < length m.rows → is_even_at (quotient m p) (class_of p s) ≡ is_even_at m s
  even_at s h =
      get_or-map (is_even_at m) p.firsts (class_of p s) 0 true (class_in m p last.round s h)
      ∙ same_parity m machine (head s) s (last.round.fine (head s) s (head_in s h) h (head_class s h))

  accepts_at : (s : ℕ) → s < length m.rows → accepted_at (quotient m p) (class_of p s) ≡ accepted_at m s
  accepts_at s h =
      get_or-map (accepted_at m) p.firsts (class_of p s) 0 [] (class_in m p last.round s h)
      ∙ same_accepted m machine (head s) s (last.round.fine (head s) s (head_in s h) h (head_class s h))

  -- the class of state 0 is 0
  class_zero : class_of p 0 ≡ 0
  class_zero = elim (cases_lt 0 (class_of p 0)) [
    | inl more ↦ absurd (
        let low = last.round.parted.least 0 (omega (arith, machine.some, last.round.whole)) in
        let up = last.round.parted.ascend 0 (class_of p 0) more (class_in m p last.round 0 machine.some) in
        omega (arith, low, up))
    | inr none ↦ omega arith
  ]

  -- a word leads to the class of the state that it leads to
  pub leads_to : (w : List ℕ) → AllBelow m.letters w → reached (quotient m p) w ≡ class_of p (reached m w)
  leads_to w below = ap (λ c. follow (quotient m p).rows c w) (sym class_zero) ∙ follows w 0 below machine.some

  -- the automaton of the classes says the same of each word
  pub says_same : SaySame m (quotient m p)
  says_same w below =
      let h : reached m w < length m.rows = follow_within m machine w 0 below machine.some in (
        sym (ap (is_even_at (quotient m p)) (leads_to w below) ∙ even_at (reached m w) h),
        sym (ap (accepted_at (quotient m p)) (leads_to w below) ∙ accepts_at (reached m w) h),
      )

  -- what a word leads to from the first state of a class
  from_first : (c : ℕ) (w : List ℕ) → c < length p.firsts → AllBelow m.letters w → class_of p (follow m.rows (first_of p c) w) ≡ follow (quotient m p).rows c w
  from_first c w h below = sym (follows w (first_of p c) below (first_in c h)) ∙ ap (λ d. follow (quotient m p).rows d w) (last.round.parted.first c h)

  -- classes that are the same have first states that are
  firsts_same : (c d : ℕ) → c < length p.firsts → d < length p.firsts → AreSame (quotient m p) c d → AreSame m (first_of p c) (first_of p d)
  firsts_same c d hc hd same w below = (
    sym (even_at s s_in) ∙ ap (is_even_at (quotient m p)) (from_first c w hc below) ∙ (same w below).0
        ∙ sym (ap (is_even_at (quotient m p)) (from_first d w hd below)) ∙ even_at t t_in,
    sym (accepts_at s s_in) ∙ ap (accepted_at (quotient m p)) (from_first c w hc below) ∙ (same w below).1
        ∙ sym (ap (accepted_at (quotient m p)) (from_first d w hd below)) ∙ accepts_at t t_in,
  )
    where
      s : ℕ
      s = follow m.rows (first_of p c) w

      t : ℕ
      t = follow m.rows (first_of p d) w

      s_in : s < length m.rows
      s_in = follow_within m machine w (first_of p c) below (first_in c hc)

      t_in : t < length m.rows
      t_in = follow_within m machine w (first_of p d) below (first_in d hd)

  -- no two classes are the same
  pub is_least : IsLeastMachine (quotient m p)
  is_least c d hc hd same =
      let c_in : c < length p.firsts = omega (arith, count_is) in
      let d_in : d < length p.firsts = omega (arith, count_is) in
      sym (last.round.parted.first c c_in)
      ∙ last.round.coarse (first_of p c) (first_of p d) (first_in c c_in) (first_in d d_in) (firsts_same c d c_in d_in same)
      ∙ last.round.parted.first d d_in

  -- it is an automaton
  pub is_machine : IsMachine (quotient m p)
  is_machine = record {
    some = let some = class_in m p last.round 0 machine.some in omega (arith, some, count_is);
    even = length-map p.firsts (is_even_at m) ∙ sym count_is;
    accepted = length-map p.firsts (accepted_at m) ∙ sym count_is;
    long = λ c h. long c (omega (arith, count_is));
    within = λ c h. within c (omega (arith, count_is));
  }
    where
      long : (c : ℕ) → c < length p.firsts → length (row_of (quotient m p) c) ≡ m.letters
      long c h = ap length (row_at c h) ∙ length-map (row_of m (first_of p c)) (class_of p) ∙ machine.long (first_of p c) (first_in c h)

      within : (c : ℕ) → c < length p.firsts → AllBelow (length (quotient m p).rows) (row_of (quotient m p) c)
      within c h = rw (row_at c h) (
          all_mapped (length m.rows) (length (quotient m p).rows) (class_of p) (row_of m (first_of p c))
          (λ s hs. let in_p = class_in m p last.round s hs in omega (arith, in_p, count_is))
          (machine.within (first_of p c) (first_in c h)))
