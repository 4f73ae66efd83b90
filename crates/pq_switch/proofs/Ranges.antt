-- The entries of a table whose matches state one pattern are in one range of places.
use Rattle.std.proofs.Common.{◌≡◌, ℕ, ◌-◌, ◌<◌, Bool, true, false, not, cond, ◌&&◌, List, [], ◌∷◌, sym, ap, subst, ◌∙◌, arith, inl, inr}
use Rattle.std.proofs.lemmas.Bool.Decides.{nat_tests}
use Rattle.std.specs.declared.cmp.Ordering.{Ordering}
use Rattle.std.specs.declared.cmp.Ordering.TheVariants.{Less, Equal, Greater}
use Rattle.std.specs.declared.ops.Bound.TheVariants.{Included, Excluded}
use Rattle.std.specs.BTreeMap.Range.{range_contains}
use Rattle.std.specs.Cmp.{tied_itself}
use Rattle.std.specs.List.{AllByRecursion, filter}
use Rattle.std.specs.Map.{values_of}
use Rattle.std.specs.Ordering.{is_gt, is_le, nat_cmp, ordering_then}
use Rattle.pq_model.specs.SwitchMachine.{Entry}
use Rattle.pq_switch.specs.Added.{IsKept, place_in}
use Rattle.pq_switch.specs.Patterns.{pattern_of, shape_of}
use Rattle.pq_switch.specs.Places.{block_at, block_cmp, pattern_cmp, place_at, place_cmp}
use Rattle.pq_switch.specs.Ranges.{range_of}
use Rattle.pq_switch.specs.declared.entry.Slot.{Slot}
use Rattle.pq_switch.specs.declared.pattern.Pattern.{Pattern}
use Rattle.pq_switch.specs.declared.place.Place.{Place}
use Rattle.pq_switch.specs.Choice.{IsIn}
use Rattle.pq_switch.proofs.Places.{block_total, pattern_total, place-exact}

module _ (n : ℕ) (p : Pattern) where
  abbrev pub lies : Place → Bool
  lies q = range_contains place_cmp (Included (place_at n p 0)) (Excluded (place_at n p 0x10001)) q

  joined_by : (r s t : Ordering) → r ≡ Equal → s ≡ Equal → t ≡ Equal → (u : Ordering)
      → ordering_then r (ordering_then s (ordering_then Equal (ordering_then t u))) ≡ u
  joined_by r s t a b c u = λ i. ordering_then (a i) (ordering_then (b i) (ordering_then Equal (ordering_then (c i) u)))

  pub by_down : (a b : ℕ) → place_cmp (place_at n p a) (place_at n p b) ≡ nat_cmp a b
  by_down a b = joined_by (block_cmp (block_at n p.in_port p.vlan) (block_at n p.in_port p.vlan)) (pattern_cmp (shape_of p) (shape_of p))
      (pattern_cmp p p) (tied_itself block_total (block_at n p.in_port p.vlan)) (tied_itself pattern_total (shape_of p))
      (tied_itself pattern_total p) (nat_cmp a b)

  less : (a b : ℕ) → a < b → nat_cmp a b ≡ Less
  less a b h = grind (arith, nat_tests)

  greater : (a b : ℕ) → b < a → nat_cmp a b ≡ Greater
  greater a b h = grind (arith, nat_tests)

  -- the bounds are in order
  pub rises : is_gt (place_cmp (place_at n p 0) (place_at n p 0x10001)) ≡ false
  rises = ap is_gt (by_down 0 0x10001)

  pub inside : (d : ℕ) → d < 0x10001 → 0 < d → lies (place_at n p d) ≡ true
  inside d high low =
      let from : place_cmp (place_at n p 0) (place_at n p d) ≡ Less = by_down 0 d ∙ less 0 d low in
      let past : place_cmp (place_at n p 0x10001) (place_at n p d) ≡ Greater = by_down 0x10001 d ∙ greater 0x10001 d high in
      λ i. is_le (from i) && not (is_le (past i))

  pub here : (e : Entry) (q : Place) → e.table ≡ n → pattern_of e.matching ≡ p → e.priority < 0x10000 → place_cmp (place_in e) q ≡ Equal → lies q ≡ true
  here e q t m small equal =
      ap lies (sym (place-exact (place_in e) q equal)) ∙ ap lies (λ i. place_at (t i) (m i) (0x10000 - e.priority))
      ∙ inside (0x10000 - e.priority) (omega arith) (omega arith)

module _ (next : ℕ) where
  pub in-values : (p : Place → Bool) (t : Slot) (es : List (Place × Slot)) → IsIn t (values_of (filter (λ e. p e.0) es)) → IsIn t (values_of es)
  in-values p t [] h = h
  in-values p t (e ∷ es) h = by (p e.0) h (in-values p t es)
    where
      by : (b : Bool) → IsIn t (values_of (cond b (e ∷ filter (λ d. p d.0) es) (filter (λ d. p d.0) es)))
          → (IsIn t (values_of (filter (λ d. p d.0) es)) → IsIn t (values_of es)) → IsIn t (e.1 ∷ values_of es)
      by true (inl is) more = inl is
      by true (inr i) more = inr (more i)
      by false i more = inr (more i)

  -- an entry that passes by its place is in the part of those that pass
  pub in-part : (p : Place → Bool) (t : Slot) (es : List (Place × Slot)) → AllByRecursion (IsKept next) es
      → ((q : Place) → t.entry.priority < 0x10000 → place_cmp (place_in t.entry) q ≡ Equal → p q ≡ true) → IsIn t (values_of es)
      → IsIn t (values_of (filter (λ e. p e.0) es))
  in-part p t [] all h i = i
  in-part p t (e ∷ es) (kept, all) h (inl is) =
      let passes = h e.0 (subst (λ s. s.entry.priority < 0x10000) (sym is) kept.priority) (ap (λ s. place_cmp (place_in s.entry) e.0) is ∙ kept.place) in
      subst (λ b. IsIn t (values_of (cond b (e ∷ filter (λ d. p d.0) es) (filter (λ d. p d.0) es)))) (sym passes) (inl is)
  in-part p t (e ∷ es) (kept, all) h (inr i) = by (p e.0) (in-part p t es all h i)
    where
      by : (b : Bool) → IsIn t (values_of (filter (λ d. p d.0) es)) → IsIn t (values_of (cond b (e ∷ filter (λ d. p d.0) es) (filter (λ d. p d.0) es)))
      by true more = inr more
      by false more = more

-- one that states the pattern is in its range
pub in_range : (next n : ℕ) (p : Pattern) (es : List (Place × Slot)) → AllByRecursion (IsKept next) es → (t : Slot) → IsIn t (values_of es)
    → t.entry.table ≡ n → pattern_of t.entry.matching ≡ p → IsIn t (range_of n p es)
in_range next n p es kept t i table pattern = in-part next (lies n p) t es kept (λ q small equal. here n p t.entry q table pattern small equal) i

pub from_range : (n : ℕ) (p : Pattern) (es : List (Place × Slot)) (t : Slot) → IsIn t (range_of n p es) → IsIn t (values_of es)
from_range n p es t i = in-values 0 (lies n p) t es i
