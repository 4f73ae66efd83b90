-- In a range of places the priorities fall.
use Rattle.std.proofs.Common.{◌≡◌, ℕ, ◌-◌, ◌<◌, ◌≤◌, Bool, true, false, not, cond, ◌&&◌, List, [], ◌∷◌, refl, sym, ap, ◌∙◌, arith}
use Rattle.std.proofs.lemmas.Bool.{true≢false}
use Rattle.std.proofs.lemmas.Bool.Decides.{nat_tests}
use Rattle.std.specs.declared.cmp.Ordering.{Ordering}
use Rattle.std.specs.declared.cmp.Ordering.TheVariants.{Less, Equal, Greater}
use Rattle.std.specs.declared.option.Option.{Option}
use Rattle.std.specs.declared.option.Option.TheVariants.{None, Some}
use Rattle.std.specs.Cmp.{first_so, second_so}
use Rattle.std.specs.List.{AllByRecursion, filter}
use Rattle.std.specs.List.Sorted.{IsStrictlySortedBy}
use Rattle.std.specs.Map.{keys_of, values_of}
use Rattle.std.specs.Ordering.{bool_cmp, is_le, nat_cmp, ordering_then}
use Rattle.std.proofs.Math.Bool.{and-false}
use Rattle.pq_model.specs.Tagged.{TaggedPacket}
use Rattle.pq_switch.specs.Added.{IsKept, place_in}
use Rattle.pq_switch.specs.Choice.{best_of, comes_before, counts, is_beaten}
use Rattle.pq_switch.specs.Patterns.{shape_of}
use Rattle.pq_switch.specs.Places.{block_at, block_cmp, pattern_cmp, place_at, place_cmp}
use Rattle.pq_switch.specs.declared.entry.Slot.{Slot}
use Rattle.pq_switch.specs.declared.pattern.Pattern.{Pattern}
use Rattle.pq_switch.specs.declared.place.Place.{Place}
use Rattle.pq_switch.proofs.Places.{block-exact, bool-exact, pattern-exact, place-exact}
use Rattle.pq_switch.proofs.Ranges.{by_down, lies}

-- none has a higher priority than one before it
abbrev pub Falls : List Slot → Type 0
Falls [] = Unit {0}
Falls (s ∷ slots) = AllByRecursion (λ t. t.entry.priority ≤ s.entry.priority) slots × Falls slots

-- what is between two that are equal up to here is equal up to here
pub record Squeezed (r u v : Ordering) : Type 0 where
  pub equal : r ≡ Equal
  pub from : is_le u ≡ true
  pub past : is_le v ≡ false

pub squeezed : (r u v : Ordering) → is_le (ordering_then r u) ≡ true → is_le (ordering_then r v) ≡ false → Squeezed r u v
squeezed Less u v h k = absurd (true≢false k)
squeezed Equal u v h k = record { equal = refl; from = h; past = k }
squeezed Greater u v h k = absurd (true≢false (sym h))

not_true : (b : Bool) → not b ≡ true → b ≡ false
not_true true h = sym h
not_true false h = refl

no_more : (a b : ℕ) → nat_cmp a b ≡ Less → a ≤ b
no_more a b h = grind (arith, nat_tests)

module _ (n : ℕ) (p : Pattern) where
  -- what lies in the range states the pattern
  shaped : (q : Place) → lies n p q ≡ true → q ≡ place_at n p q.down
  shaped q h =
      let from = first_so _ _ h in
      let past = not_true _ (second_so _ _ h) in
      let one = squeezed (block_cmp (block_at n p.in_port p.vlan) q.block) _ _ from past in
      let two = squeezed (pattern_cmp (shape_of p) q.shape) _ _ one.from one.past in
      let three = squeezed (bool_cmp false q.behind) _ _ two.from two.past in
      let four = squeezed (pattern_cmp p q.pattern) _ _ three.from three.past in
      let block = block-exact (block_at n p.in_port p.vlan) q.block one.equal in
      let shape = pattern-exact (shape_of p) q.shape two.equal in
      let behind = bool-exact false q.behind three.equal in
      let pattern = pattern-exact p q.pattern four.equal in
      sym (λ i. record { block = block i; shape = shape i; behind = behind i; pattern = pattern i; down = q.down })

  lower : (q r : Place) → lies n p q ≡ true → lies n p r ≡ true → place_cmp q r ≡ Less → q.down ≤ r.down
  lower q r h k less =
      let a = shaped q h in
      let b = shaped r k in
      no_more q.down r.down (sym (by_down n p q.down r.down) ∙ (λ i. place_cmp (sym a i) (sym b i)) ∙ less)

down_of : (next : ℕ) (r : Place × Slot) → IsKept next r → 0x10000 - r.1.entry.priority ≡ r.0.down
down_of next r kept = ap (λ (q : Place). q.down) (place-exact (place_in r.1.entry) r.0 kept.place)

module _ (next n : ℕ) (p : Pattern) where
  abbrev part : List (Place × Slot) → List (Place × Slot)
  part es = filter (λ e. lies n p e.0) es

  none_higher : (r : Place × Slot) → IsKept next r → lies n p r.0 ≡ true → (es : List (Place × Slot)) → AllByRecursion (IsKept next) es
      → AllByRecursion (λ q. place_cmp r.0 q ≡ Less) (keys_of es) →
      AllByRecursion (λ t. t.entry.priority ≤ r.1.entry.priority) (values_of (part es))
  none_higher r kept in_range [] all later = tt
  none_higher r kept in_range (e ∷ es) (here, all) (less, later) = by (lies n p e.0) refl (none_higher r kept in_range es all later)
    where
      by : (b : Bool) → lies n p e.0 ≡ b → AllByRecursion (λ t. t.entry.priority ≤ r.1.entry.priority) (values_of (part es))
          → AllByRecursion (λ t. t.entry.priority ≤ r.1.entry.priority) (values_of (cond b (e ∷ part es) (part es)))
      by true is more =
          let down = lower n p r.0 e.0 in_range is less in
          let here_down = down_of next e here in
          let its_down = down_of next r kept in
          let small = here.priority in
          (omega (arith, down, here_down, its_down, small), more)
      by false is more = more

  pub falls : (es : List (Place × Slot)) → AllByRecursion (IsKept next) es → IsStrictlySortedBy place_cmp (keys_of es) → Falls (values_of (part es))
  unfolding IsStrictlySortedBy
  falls [] all sorted = tt
  falls (e ∷ es) (here, all) (later, sorted) = by (lies n p e.0) refl (falls es all sorted)
    where
      by : (b : Bool) → lies n p e.0 ≡ b → Falls (values_of (part es)) → Falls (values_of (cond b (e ∷ part es) (part es)))
      by true is more = (none_higher e here is es all later, more)
      by false is more = more

module _ (n : ℕ) (x : TaggedPacket) where
  -- entries of lower priorities leave the best as it is
  beaten : (slots : List Slot) (best : Slot) → AllByRecursion (λ t. t.entry.priority < best.entry.priority) slots → best_of n x slots (Some best) ≡ Some best
  beaten [] best all = refl
  beaten (s ∷ slots) best (here, all) =
      let behind : comes_before s best ≡ false = grind (arith, nat_tests) in
      let stays : counts n x s && comes_before s best ≡ false = ap (λ b. counts n x s && b) behind ∙ and-false (counts n x s) in
      ap (best_of n x slots) (ap (λ b. cond b (Some s) (Some best)) stays) ∙ beaten slots best all

  lower_all : (s best : Slot) → s.entry.priority < best.entry.priority → (slots : List Slot)
      → AllByRecursion (λ t. t.entry.priority ≤ s.entry.priority) slots → AllByRecursion (λ t. t.entry.priority < best.entry.priority) slots
  lower_all s best h [] all = tt
  lower_all s best h (t ∷ slots) (here, all) = (omega (arith, h, here), lower_all s best h slots all)

  -- so the first of a lower priority ends the search
  pub ends : (s : Slot) (slots : List Slot) (best : Option Slot) → is_beaten s best ≡ true → Falls (s ∷ slots) → best_of n x (s ∷ slots) best ≡ best
  ends s slots None h fall = absurd (true≢false (sym h))
  ends s slots (Some best) h fall =
      let below : s.entry.priority < best.entry.priority = grind (arith, nat_tests) in
      beaten (s ∷ slots) best (below, lower_all s best below slots fall.0)
