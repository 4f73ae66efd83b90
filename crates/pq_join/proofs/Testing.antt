-- The ports that the trees of a switch test.
use Rattle.std.proofs.Common.{ℕ, ◌<◌, ◌-◌, ◌≡◌, List, ◌∷◌, map, Option, inl, inr, sym, subst, ap}
use Rattle.std.specs.Prelude.{length}
use Rattle.std.specs.List.{All}
use Rattle.std.proofs.lemmas.List.Elements.{All-get_or}
use Rattle.pq_fields.specs.declared.field.Field.TheVariants.{Switch, Port}
use Rattle.pq_fields.specs.Writes.{Written}
use Rattle.pq_model.specs.Install.{IsLawfulTopology}
use Rattle.pq_model.specs.MatchFields.{IsPortNumber}
use Rattle.pq_model.specs.Topology.{Topology, ports_of}
use Rattle.pq_auto.specs.Machine.{Machine}
use Rattle.pq_letters.specs.Letters.{LettersValue}
use Rattle.pq_rewrite.specs.declared.outgoing.Outgoing.{Outgoing}
use Rattle.pq_rewrite.specs.declared.trees.Arrive.{Arrive}
use Rattle.pq_rewrite.specs.declared.trees.Key.{Key}
use Rattle.pq_rewrite.specs.declared.trees.Key.TheVariants.{Plain, Tag}
use Rattle.pq_store.specs.declared.test.Test.{Test}
use Rattle.pq_store.specs.declared.test.Test.TheVariants.{Bit, Equal}
use Rattle.pq_store.specs.Tree.{Tree, IsTested}
use Rattle.pq_store.specs.Store.{HasAt}
use Rattle.pq_apply.specs.Restriction.{RestrictsAt}
use Rattle.pq_lists.proofs.Places.{at_place}
use Rattle.pq_lists.proofs.Paired.{zip_right}
use Rattle.pq_join.specs.declared.departure.Departure.{Departure}
use Rattle.pq_join.specs.declared.sight.Seen.{Seen}
use Rattle.pq_join.specs.Arriving.{ArrivesAt, MakesAt, arrival_of, even_to}
use Rattle.pq_join.specs.Drops.{DepartsOrDropsAt}
use Rattle.pq_join.specs.Leaving.{LeavesAt, copies_at, odd_to}
use Rattle.pq_join.specs.Sight.{IsSight}
use Rattle.pq_join.specs.Sound.{TestsPortsOrZero}
use Rattle.pq_join.specs.Switch.{TestPortsAt}
use Rattle.pq_join.proofs.Soundness.{numbers_in}

-- a tree made of another tests ports where that does
made_ports : {A C : Type 0} (make : A → C) (from : List (Tree A)) (k : ℕ) (into : List (Tree C)) (id : ℕ) → HasAt TestsPortsOrZero from k
    → MakesAt make from k into id → TestPortsAt into id
made_ports make from k into id ports makes t t_is v tested =
    let made = makes ports.0 ports.1 in
    let made_is = made.1 in
    let same : t ≡ made.0 = cc in
    ports.2 v (made.2.tests (Equal Port v) (subst (IsTested (Equal Port v)) same tested))

module _ (T : Topology) (a : LettersValue) (d : ℕ) (lawful : IsLawfulTopology T) (within : a.root < length a.trees) (letters : TestPortsAt a.trees a.root)
    (seen : List (Tree Seen)) (root : ℕ) (sight : HasAt (IsSight T a d) seen root) where
  -- so the sight does
  sight_ports : TestsPortsOrZero sight.0
  sight_ports v tested = elim (sight.2.asks (Equal Port v) tested) [
    | inl own ↦ let lt = at_place a.trees a.root within in letters lt.0 lt.1 v (own lt.0 lt.1)
    | inr own ↦
        let (k, p, inside, at, same) = own in
        let number : IsPortNumber p = subst IsPortNumber at (All-get_or IsPortNumber (ports_of T d) k p inside (numbers_in T.switches d lawful.switches)) in
        let e : v ≡ p = ap (λ s. number_of s) same in
        inl (subst IsPortNumber (sym e) number)
  ]
    where
      number_of : Test → ℕ
      number_of (Equal f n) = n
      number_of (Bit f n) = n

  -- the trees of the first table
  pub arriving_ports : (m : Machine) (into : List (Tree (Option Arrive))) (trees : List (Key × ℕ)) → ArrivesAt m seen root into trees
      → All (λ p. TestPortsAt into p.1) trees
  arriving_ports m into trees arrives =
      zip_right (λ k p. (p.0 ≡ k) × MakesAt (arrival_of m k) seen root into p.1) (λ p. TestPortsAt into p.1)
      (λ k p both. made_ports (arrival_of m k) seen root into p.1 (sight.0, sight.1, sight_ports) both.1)
      (Plain ∷ map Tag (even_to m (length m.rows))) trees arrives

  -- and those of the second
  pub leaving_ports : (m : Machine) (us : List (Tree (List Written))) (policy here : ℕ) → policy < length us
      → RestrictsAt Switch d us policy us here → TestPortsAt us policy
      → (whole : List (Tree (List Departure))) (node : ℕ) → DepartsOrDropsAt seen root us here whole node
      → (into : List (Tree (List Outgoing))) (trees : List (ℕ × ℕ))
      → LeavesAt m whole node into trees → All (λ p. TestPortsAt into p.1) trees
  leaving_ports m us policy here inside restricts tests whole node departs into trees leaves =
      zip_right (λ t p. (p.0 ≡ t) × MakesAt (copies_at m (t - 1)) whole node into p.1) (λ p. TestPortsAt into p.1)
      (λ t p both. made_ports (copies_at m (t - 1)) whole node into p.1 departing both.1) (odd_to m (length m.rows)) trees leaves
    where
      departing : HasAt TestsPortsOrZero whole node
      departing =
          let p = at_place us policy inside in
          let r = restricts p.0 p.1 in
          let made = departs sight.0 r.0 sight.1 r.1 in (
            made.0,
            made.1,
            λ v tested. elim (made.2.tests (Equal Port v) tested) [
              | inl own ↦ sight_ports v own
              | inr own ↦ tests p.0 p.1 v (r.2.tests (Equal Port v) own)
            ],
          )
