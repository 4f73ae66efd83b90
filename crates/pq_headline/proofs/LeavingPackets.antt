-- Packets that leave their switch, and the writes of those that do.
use Rattle.std.proofs.Common.{◌≡◌, ◌∙◌, Bool, true, false, cond, List, [], ◌∷◌, filter, get_or, refl, sym, ap, subst, inl, inr}
use Rattle.std.specs.Prelude.{◌⊎◌, IsTrue}
use Rattle.std.specs.List.{All, AllByRecursion, Any, Contains}
use Rattle.std.specs.declared.cmp.Ordering.TheVariants.{Less}
use Rattle.std.proofs.lemmas.Bool.{true≢false}
use Rattle.std.proofs.lemmas.List.Elements.{All-filter, Contains-get_or, recursion_from_All}
use Rattle.std.proofs.lemmas.List.Kept.{AllPairs-filter}
use Rattle.pq_fields.specs.Order.{writes_cmp}
use Rattle.pq_fields.specs.Packet.{Numbers, Fit}
use Rattle.pq_fields.specs.Writes.{Written, AllFit, on}
use Rattle.pq_model.specs.Meaning.{Meaning}
use Rattle.pq_model.specs.Topology.{Topology, is_port}
use Rattle.pq_rewrite.specs.Rewriting.{ChangesAll, IsGiven, IsWrittenBy}
use Rattle.pq_rewrite.proofs.InSequence.{on_fits}
use Rattle.pq_rewrite.proofs.Sets.{any_cases, any_first, any_none, any_later}
use Rattle.pq_layout.specs.Leaves.{AreDepartures, Departures, departing, departs_by}
use Rattle.pq_headline.specs.LaidOut.{DepartsAtPorts, DepartsInOrder}

-- the second packet leaves the switch of the first at a port of the topology
pub record IsDeparting (T : Topology) (x y : Numbers) : Type 0 where
  pub switch : y.switch ≡ x.switch
  pub port : IsTrue (is_port T x.switch y.port)
  pub fit : Fit y

-- what writes give leaves where it has a port
departs_at : (T : Topology) (x : Numbers) (ws : List Written) → Fit x → All AllFit ws → (y : Numbers) → IsWrittenBy x ws y
    → IsTrue (is_port T x.switch y.port) → IsDeparting T x y
departs_at T x ws fit fits y (k, w, within, at, is) port =
    let fits_w : AllFit w = subst AllFit at (fits k w within) in
    record { switch = ap (λ z. z.switch) is; port = port; fit = subst Fit (sym is) (on_fits w x fits_w fit) }

-- so all departures do
pub all_departing : (T : Topology) (m : Meaning) (x : Numbers) (ws : List Written) → Fit x → DepartsInOrder T m x
    → IsGiven x (λ y. Contains (m.departs x) y) ws → AllByRecursion (IsDeparting T x) (m.departs x)
all_departing T m x ws fit order given =
    let each : All (IsDeparting T x) (m.departs x) = λ k d within.
    let y = get_or (m.departs x) k d in
    let there = Contains-get_or (m.departs x) k d within in
    departs_at T x ws fit given.fit y ((given.gives y).1 there) (order.ports y there) in
    recursion_from_All (IsDeparting T x) (m.departs x) each

-- Of the values that pass, some have this, where some have it and pass.

module _ {A : Type 0} (p : A → Bool) (P : A → Type 0) where
  any_passes : (xs : List A) → Any P (filter p xs) → Any (λ x. P x × (p x ≡ true)) xs
  any_passes [] some = absurd (any_none P some)
  any_passes (x ∷ xs) some = by (p x) refl some (any_passes xs)
    where
      by : (b : Bool) → p x ≡ b → Any P (cond b (x ∷ filter p xs) (filter p xs)) → (Any P (filter p xs) → Any (λ z. P z × (p z ≡ true)) xs)
          → Any (λ z. P z × (p z ≡ true)) (x ∷ xs)
      by true e some more = elim (any_cases P x (filter p xs) some) [
        | inl here ↦ any_first (λ z. P z × (p z ≡ true)) x xs (here, e)
        | inr later ↦ any_later (λ z. P z × (p z ≡ true)) x xs (more later)
      ]
      by false e some more = any_later (λ z. P z × (p z ≡ true)) x xs (more some)

  passes_any : (xs : List A) → Any (λ x. P x × (p x ≡ true)) xs → Any P (filter p xs)
  passes_any [] some = absurd (any_none (λ x. P x × (p x ≡ true)) some)
  passes_any (x ∷ xs) some = by (p x) refl (any_cases (λ z. P z × (p z ≡ true)) x xs some) (passes_any xs)
    where
      by : (b : Bool) → p x ≡ b → (P x × (p x ≡ true)) ⊎ Any (λ z. P z × (p z ≡ true)) xs
          → (Any (λ z. P z × (p z ≡ true)) xs → Any P (filter p xs)) → Any P (cond b (x ∷ filter p xs) (filter p xs))
      by true e (inl here) more = any_first P x (filter p xs) here.0
      by true e (inr later) more = any_later P x (filter p xs) (more later)
      by false e (inl here) more = absurd (true≢false (sym here.1 ∙ e))
      by false e (inr later) more = more later

module _ (yields : Numbers → Numbers → Type 0) (T : Topology) (m : Meaning) (writes : Departures) (at_ports : DepartsAtPorts yields T m) where
  departing_given : (x : Numbers) → Fit x → IsGiven x (yields x) (writes x) → IsGiven x (λ y. Contains (m.departs x) y) (departing T writes x)
  departing_given x fit given = record {
    ascend = AllPairs-filter (λ v w. writes_cmp v w ≡ Less) passes ws given.ascend;
    fit = All-filter passes AllFit ws given.fit;
    idle_free = All-filter passes (ChangesAll x) ws given.idle_free;
    gives = λ y. (into y, out y);
  }
    where
      ws : List Written
      ws = writes x

      passes : Written → Bool
      passes = departs_by T x

      into : (y : Numbers) → IsWrittenBy x (filter passes ws) y → Contains (m.departs x) y
      into y written =
          let some = any_passes passes (λ w. y ≡ on w x) ws written in
          let is = some.4.0 in
          let port : IsTrue (is_port T x.switch y.port) = ap (λ z. is_port T x.switch z.port) is ∙ some.4.1 in
          (at_ports x y fit).1 ((given.gives y).0 (some.0, some.1, some.2, some.3, is), port)

      out : (y : Numbers) → Contains (m.departs x) y → IsWrittenBy x (filter passes ws) y
      out y there =
          let told = (at_ports x y fit).0 there in
          let some = (given.gives y).1 told.0 in
          let port : departs_by T x some.1 ≡ true = ap (λ z. is_port T x.switch z.port) (sym some.4) ∙ told.1 in
          passes_any passes (λ w. y ≡ on w x) ws (some.0, some.1, some.2, some.3, (some.4, port))

  pub departing_writes : AreDepartures yields writes → AreDepartures (λ x y. Contains (m.departs x) y) (departing T writes)
  departing_writes given x fit = departing_given x fit (given x fit)
