-- Parts that are no more than those they refine are the same parts.
use Rattle.std.proofs.Common.{ℕ, zero, suc, ◌+◌, ◌-◌, ◌≤◌, ◌<◌, ◌≡◌, ◌∙◌, ◌⊎◌, inl, inr, List, length, refl, sym, ap, arith}
use Rattle.std.proofs.lemmas.Bool.{cases_lt}
use Rattle.pq_auto.specs.Parts.{Parts, IsParted, class_of, first_of}
use Rattle.pq_auto.proofs.Numbers.{class_within}

-- numbers that rise are no less than their places
module _ (g : ℕ → ℕ) (k : ℕ) (rise : (d e : ℕ) → d < e → e < k → g d < g e) where
  at_least : (d : ℕ) → d < k → d ≤ g d
  at_least zero h = omega arith
  at_least (suc d) h =
      let before : d ≤ g d = at_least d (omega arith) in
      let step : g d < g (suc d) = rise d (suc d) (omega arith) h in
      omega arith

  -- below a bound they leave room for the later ones
  room : (m : ℕ) → ((d : ℕ) → d < k → g d < m) → (j d : ℕ) → d + suc j ≡ k → g d + suc j ≤ m
  room m below zero d is = let b = below d (omega arith) in omega (arith, b)
  room m below (suc j) d is =
      let later : g (suc d) + suc j ≤ m = room m below j (suc d) (omega arith) in
      let step : g d < g (suc d) = rise d (suc d) (omega arith) (omega arith) in
      omega arith

  -- as many as they may be, they are their places
  steady : (m : ℕ) → m ≤ k → ((d : ℕ) → d < k → g d < m) → (d : ℕ) → d < k → g d ≡ d
  steady m few below d h =
      let low : d ≤ g d = at_least d h in
      let high : g d + suc (k - suc d) ≤ m = room m below (k - suc d) d (omega arith) in
      omega arith

-- there are no more classes than places
pub few_classes : (key : ℕ → List ℕ) (p : Parts) → IsParted key p → length p.firsts ≤ length p.classes
few_classes key p parted = by (length p.firsts) refl
  where
    by : (k : ℕ) → length p.firsts ≡ k → length p.firsts ≤ length p.classes
    by zero is = omega arith
    by (suc k) is =
        let h : k < length p.firsts = omega arith in
        let low : k ≤ first_of p k = at_least (first_of p) (length p.firsts) parted.ascend k h in
        let within = parted.within k h in
        omega (arith, low, within)

-- q refines p
module _ (key other : ℕ → List ℕ) (p q : Parts) (coarser : IsParted key p) (finer : IsParted other q) (whole : length q.classes ≡ length p.classes)
    (refines : (i j : ℕ) → i < length p.classes → j < length p.classes → class_of q i ≡ class_of q j → class_of p i ≡ class_of p j) where
  -- the first place of a class is that of its class among the finer ones
  first_too : (d : ℕ) → d < length p.firsts → first_of q (class_of q (first_of p d)) ≡ first_of p d
  first_too d h =
      let s : ℕ = first_of p d in
      let s_in : s < length p.classes = coarser.within d h in
      let s_in_q : s < length q.classes = omega (arith, whole) in
      let c_in : class_of q s < length q.firsts = class_within other q finer s s_in_q in
      let t : ℕ = first_of q (class_of q s) in
      let low : t ≤ s = finer.least s s_in_q in
      let same : class_of p t ≡ class_of p s = refines t s (omega arith) s_in (finer.first (class_of q s) c_in) in
      let high : first_of p (class_of p t) ≤ t = coarser.least t (omega arith) in
      let back : first_of p (class_of p t) ≡ s = ap (first_of p) (same ∙ coarser.first d h) in
      omega (arith, low, high, back)

  -- finer classes of first places rise
  rises : (d e : ℕ) → d < e → e < length p.firsts → class_of q (first_of p d) < class_of q (first_of p e)
  rises d e less h = elim (cases_lt (class_of q (first_of p d)) (class_of q (first_of p e))) [
    | inl is ↦ is
    | inr past ↦ absurd (by (cases_lt (class_of q (first_of p e)) (class_of q (first_of p d))) past)
  ]
    where
      d_in : d < length p.firsts
      d_in = omega arith

      up : first_of q (class_of q (first_of p d)) < first_of q (class_of q (first_of p e))
      up = rw (first_too d d_in, first_too e h) (coarser.ascend d e less h)

      by : (class_of q (first_of p e) < class_of q (first_of p d)) ⊎ (class_of q (first_of p d) ≤ class_of q (first_of p e))
          → class_of q (first_of p e) ≤ class_of q (first_of p d) → ⊥
      by (inl lower) past =
          let within : first_of p d < length q.classes = (let w = coarser.within d d_in in omega (arith, w, whole)) in
          let down = finer.ascend (class_of q (first_of p e)) (class_of q (first_of p d)) lower (class_within other q finer (first_of p d) within) in
          omega (arith, up, down)
      by (inr level) past =
          let same : class_of q (first_of p d) ≡ class_of q (first_of p e) = omega arith in
          let equal = ap (first_of q) same in
          omega (arith, up, equal)

  -- there are at least as many finer classes, and if no more, each place keeps its class
  pub settled : length q.firsts ≤ length p.firsts → (i : ℕ) → i < length p.classes → class_of q i ≡ class_of p i
  settled few i h =
      let h_q : i < length q.classes = omega (arith, whole) in
      let c : ℕ = class_of q i in
      let c_in_q : c < length q.firsts = class_within other q finer i h_q in
      let c_in : c < length p.firsts = omega arith in
      let f_in = coarser.within c c_in in
      let own : class_of q (first_of p c) ≡ c = steady (λ d. class_of q (first_of p d)) (length p.firsts) rises (length q.firsts) few below c c_in in
      sym (refines i (first_of p c) h f_in (sym own) ∙ coarser.first c c_in)
    where
      below : (d : ℕ) → d < length p.firsts → class_of q (first_of p d) < length q.firsts
      below d in_p = class_within other q finer (first_of p d) (let w = coarser.within d in_p in omega (arith, w, whole))
