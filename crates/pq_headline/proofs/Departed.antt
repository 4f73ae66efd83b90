-- The departures of a packet are what its writes give, in another order.
use Rattle.std.proofs.Common.{◌≡◌, ◌∙◌, zero, suc, ℕ, true, List, [], ◌∷◌, get_or, map, sym, ap, subst, inl, inr, arith}
use Rattle.std.specs.List.{AllByRecursion, AllPairs, Any, Contains}
use Rattle.std.specs.declared.cmp.Ordering.TheVariants.{Less}
use Rattle.std.proofs.lemmas.Bool.{true≢false}
use Rattle.pq_fields.specs.contracts.writes.WritesOrd.TheImpl as writes_order
use Rattle.pq_fields.specs.Order.{writes_cmp}
use Rattle.pq_fields.specs.Packet.{Numbers, is_before, numbers}
use Rattle.pq_fields.specs.Writes.{Written, on}
use Rattle.pq_model.specs.Install.{AscendsBy}
use Rattle.pq_model.specs.Orders.{IsReordering}
use Rattle.pq_model.proofs.Ascending.{rest_ascends}
use Rattle.pq_rewrite.specs.Rewriting.{IsGiven}
use Rattle.pq_rewrite.proofs.Diffs.{same_changes}
use Rattle.pq_rewrite.proofs.Sets.{any_cases, any_first, any_none, never_before, any_later}
use Rattle.pq_headline.proofs.Keys.{before_itself, first_ahead}
use Rattle.pq_headline.proofs.Members.{StandsIn, AreApart, among_from_contains, contains_from_among, same_members}

module _ {A B : Type 0} (f : A → B) where
  among_mapped : (z : B) (xs : List A) → StandsIn z (map f xs) → Any (λ x. z ≡ f x) xs
  among_mapped z [] there = absurd there
  among_mapped z (x ∷ xs) (inl is) = any_first (λ x. z ≡ f x) x xs is
  among_mapped z (x ∷ xs) (inr there) = any_later (λ x. z ≡ f x) x xs (among_mapped z xs there)

  mapped_among : (z : B) (xs : List A) → Any (λ x. z ≡ f x) xs → StandsIn z (map f xs)
  mapped_among z [] some = absurd (any_none (λ x. z ≡ f x) some)
  mapped_among z (x ∷ xs) some = elim (any_cases (λ x. z ≡ f x) x xs some) [ inl is ↦ inl is | inr more ↦ inr (mapped_among z xs more) ]

  -- values of which no two become the same are apart
  mapped_apart : (xs : List A) → AllPairs (λ x y. f x ≡ f y → ⊥) xs → AreApart (map f xs)
  mapped_apart [] pairs = tt
  mapped_apart (x ∷ xs) pairs = (
    λ there. (let some = among_mapped (f x) xs there in pairs zero (suc some.0) some.1 (omega arith) (omega (arith, some.2)) (some.4 ∙ ap f (sym some.3))),
    mapped_apart xs (λ i j d below within. pairs (suc i) (suc j) d (omega arith) (omega arith)),
  )

-- packets that ascend are apart
module _ {A : Type 0} (key : A → List ℕ) where
  none_ahead : (x : A) (xs : List A) → AllByRecursion (λ z. is_before (key x) (key z) ≡ true) xs → StandsIn x xs → ⊥
  none_ahead x [] all there = there
  none_ahead x (y ∷ ys) all (inl is) = true≢false (sym all.0 ∙ ap (λ z. is_before (key x) (key z)) (sym is) ∙ before_itself (key x))
  none_ahead x (y ∷ ys) all (inr there) = none_ahead x ys all.1 there

  pub ascending_apart : (xs : List A) → AscendsBy key xs → AreApart xs
  ascending_apart [] up = tt
  ascending_apart (x ∷ xs) up = (none_ahead x xs (first_ahead key x xs up), ascending_apart xs (rest_ascends key x xs up))

-- the packets that writes give
abbrev pub given_by : Numbers → List Written → List Numbers
given_by x ws = map (λ w. on w x) ws

given_apart : (x : Numbers) (P : Numbers → Type 0) (ws : List Written) → IsGiven x P ws → AreApart (given_by x ws)
given_apart x P ws given = mapped_apart (λ w. on w x) ws (λ i j d below within. λ same.
    let v = get_or ws i d in
    let w = get_or ws j d in
    let is : v ≡ w = same_changes x v w (given.idle_free i d (omega arith)) (given.idle_free j d within) same in
    never_before v (subst (λ u. writes_cmp v u ≡ Less) (sym is) (given.ascend i j d below within)))

-- what the writes give are the departures
pub departures_given : (x : Numbers) (ys : List Numbers) (ws : List Written) → AscendsBy numbers ys → IsGiven x (λ y. Contains ys y) ws
    → IsReordering (given_by x ws) ys
departures_given x ys ws up given =
    same_members (given_by x ws) ys (given_apart x (λ y. Contains ys y) ws given) (ascending_apart numbers ys up)
    (λ y there. among_from_contains ys y ((given.gives y).0 (among_mapped (λ w. on w x) y ws there)))
    (λ y there. mapped_among (λ w. on w x) y ws ((given.gives y).1 (contains_from_among ys y there)))
