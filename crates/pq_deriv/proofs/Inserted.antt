-- Elements that are put at the place that a search tells keep a list ascending.
use Rattle.std.proofs.Common.{Less, Greater, ◌≡◌, ℕ, zero, suc, false, ◌≤◌, ◌<◌, List, [], ◌∷◌, ◌++◌, length, map, take, drop, get_or, add-one, arith, ap, ◌∙◌}
use Rattle.std.specs.declared.cmp.Ordering.{Ordering}
use Rattle.std.specs.Ordering.{is_lt, ordering_index, ordering_reverse}
use Rattle.std.specs.Cmp.{IsTotalOrder}
use Rattle.std.specs.List.{AllByRecursion}
use Rattle.std.specs.List.Sorted.{IsStrictlySortedBy, IsNonDecreasingBy, IsPartitionPoint}
use Rattle.std.proofs.lemmas.List.Sorted.{searchable_from_sorted}
use Rattle.pq_lists.proofs.Holding.{all_weaker}

-- what is true of all elements, and of one that is put in
pub all_put : {V K : Type 0} (key : V → K) (P : K → Type 0) (vs : List V) (v : V) (i : ℕ) → AllByRecursion P (map key vs) → P (key v)
    → AllByRecursion P (map key (take i vs ++ (v ∷ drop i vs)))
all_put key P [] v zero all also = (also, tt)
all_put key P [] v (suc i) all also = (also, tt)
all_put key P (u ∷ vs) v zero all also = (also, all)
all_put key P (u ∷ vs) v (suc i) all also = (all.0, all_put key P vs v i all.1 also)

module _ {V K : Type 0} (key : V → K) (cmp : K → K → Ordering) (total : IsTotalOrder cmp) where
  no_fall : (vs : List V) (k : ℕ) (d : V) → IsStrictlySortedBy cmp (map key vs) → suc k < length vs
      → is_lt (cmp (key (get_or vs (suc k) d)) (key (get_or vs k d))) ≡ false
  unfolding IsStrictlySortedBy
  no_fall [] k d up within = absurd (omega (arith, within))
  no_fall (u ∷ []) k d up within = absurd (omega (arith, within))
  no_fall (u ∷ v ∷ vs) zero d up within = ap is_lt (total.antisymm (key v) (key u) ∙ ap ordering_reverse up.0.0)
  no_fall (u ∷ v ∷ vs) (suc k) d up within = no_fall (v ∷ vs) k d up.1 (omega (arith, within))

  -- an ascending list can be searched
  pub searchable : (vs : List V) (r : K) → IsStrictlySortedBy cmp (map key vs) → IsNonDecreasingBy (λ v. ordering_index (cmp (key v) r)) vs
  searchable vs r up = searchable_from_sorted total key vs r (λ k d low within. rw (add-one k) (no_fall vs k d up (omega (arith, within))))

  -- with an element at the place between those below it and those above it, it ascends
  pub ascends_put : (vs : List V) (v : V) (i : ℕ) → IsStrictlySortedBy cmp (map key vs) → i ≤ length vs
      → IsPartitionPoint (λ u. cmp (key u) (key v) ≡ Less) (λ u. cmp (key u) (key v) ≡ Greater) vs i →
      IsStrictlySortedBy cmp (map key (take i vs ++ (v ∷ drop i vs)))
  unfolding IsStrictlySortedBy
  ascends_put [] v zero up within place = (tt, tt)
  ascends_put [] v (suc i) up within place = absurd (omega (arith, within))
  ascends_put (u ∷ vs) v zero up within place =
      let below : cmp (key v) (key u) ≡ Less = total.antisymm (key v) (key u) ∙ ap ordering_reverse (place.1 0 u (omega arith) (omega arith)) in
      ((below, all_weaker (λ z. cmp (key u) z ≡ Less) (λ z. cmp (key v) z ≡ Less) (λ z. total.trans (key v) (key u) z below) (map key vs) up.0), up)
  ascends_put (u ∷ vs) v (suc i) up within place = (
    all_put key (λ z. cmp (key u) z ≡ Less) vs v i up.0 (place.0 0 u (omega arith) (omega arith)),
    ascends_put vs v i up.1 (omega (arith, within)) (
      λ k d low short. place.0 (suc k) d (omega arith) (omega (arith, short)),
      λ k d low short. place.1 (suc k) d (omega (arith, low)) (omega (arith, short)),
    ),
  )
