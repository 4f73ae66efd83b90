-- The room for the trees of a switch.
use Rattle.std.proofs.Common.{ℕ, ◌<◌, ◌≡◌, Bool, true, false, List, [], ◌∷◌, ◌==◌, if◌then◌else◌, subst}
use Rattle.std.specs.Prelude.{length}
use Rattle.std.specs.List.{All}
use Rattle.std.proofs.lemmas.List.Elements.{All-head, All-nil, All-tail}
use Rattle.std.proofs.lemmas.Option.{slice_get_within}
use Rattle.pq_fields.specs.declared.field.Field.TheVariants.{Switch}
use Rattle.pq_fields.specs.Writes.{Written}
use Rattle.pq_model.specs.Topology.{Switch as SwitchValue, Topology, ports_in}
use Rattle.pq_store.specs.declared.test.Test.TheVariants.{Equal}
use Rattle.pq_store.specs.Tree.{Tree}
use Rattle.pq_store.specs.Room.{HasRoom, IsAmong, Within}
use Rattle.pq_store.specs.Store.{HasAt}
use Rattle.pq_lists.proofs.Places.{at_place}
use Rattle.pq_store.proofs.RoomLemmas.{room_for}
use Rattle.pq_apply.specs.Product.{FitTogetherAt}
use Rattle.pq_apply.specs.Restriction.{RestrictsAt}
use Rattle.pq_letters.specs.Letters.{LettersValue}
use Rattle.pq_join.proofs.Mapping.{within_both}
use Rattle.pq_join.specs.declared.departure.Departure.{Departure}
use Rattle.pq_join.specs.declared.sight.Seen.{Seen}
use Rattle.pq_join.specs.Drops.{DepartsOrDropsAt}
use Rattle.pq_join.specs.Maps.{FitsAloneAt}
use Rattle.pq_join.specs.Sight.{IsSeenWithin, IsSight}
use Rattle.pq_join.specs.Switch.{FitsAsSwitch}

-- the ports of a switch are among those of all
ports_among : (ns : List ℕ) (ss : List SwitchValue) (d : ℕ) → All (λ s. All (λ p. IsAmong p ns) s.ports) ss → All (λ p. IsAmong p ns) (ports_in ss d)
ports_among ns [] d among = All-nil (λ p. IsAmong p ns)
ports_among ns (s ∷ ss) d among =
    by (s.datapath == d) (ports_among ns ss d (All-tail (λ r. All (λ p. IsAmong p ns) r.ports) s ss among))
    (All-head (λ r. All (λ p. IsAmong p ns) r.ports) s ss among)
  where
    by : (b : Bool) → All (λ p. IsAmong p ns) (ports_in ss d) → All (λ p. IsAmong p ns) s.ports → All (λ p. IsAmong p ns) (if b then s.ports else ports_in ss d)
    by true later own = own
    by false later own = later

module _ (T : Topology) (us : List (Tree (List Written))) (policy : ℕ) (a : LettersValue) (d : ℕ) (room : FitsAsSwitch T us policy a) where
  -- there is room for what is seen
  pub seen_room : HasRoom (IsSeenWithin T a d)
  seen_room = room_for (λ ns within. (within.1, ports_among (ns _) T.switches d within.2)) room

  module _ (seen : List (Tree Seen)) (root : ℕ) (sight : HasAt (IsSight T a d) seen root) where
    -- for the sight
    pub sight_room : FitsAloneAt seen root
    sight_room t t_is =
        let there = sight.1 in
        let t_same : sight.0 ≡ t = cc in
        room_for (λ ns within. subst (Within ns) t_same (sight.2.tests ns within)) (seen_room)

    module _ (here : ℕ) (within : policy < length us) (restricts : RestrictsAt Switch d us policy us here) where
      -- for the sight and the policy at the switch
      pub policy_room : FitTogetherAt seen root us here
      policy_room t u t_is u_is =
          let p = at_place us policy within in
          let r = restricts p.0 p.1 in
          let r_is = r.1 in
          let there = sight.1 in
          let t_same : sight.0 ≡ t = cc in
          let u_same : r.0 ≡ u = cc in
          room_for (λ ns both. (
            subst (Within ns) t_same (sight.2.tests ns (both.1, ports_among (ns _) T.switches d both.2)),
            subst (Within ns) u_same (λ f v tested. both.0 p.0 p.1 f v (r.2.tests (Equal f v) tested)),
          )) room

      -- and for departures
      pub departures_room : (whole : List (Tree (List Departure))) (node : ℕ) → DepartsOrDropsAt seen root us here whole node → FitsAloneAt whole node
      departures_room whole node departs t t_is =
          let p = at_place us policy within in
          let r = restricts p.0 p.1 in
          let made = departs sight.0 r.0 sight.1 r.1 in
          let made_is = made.1 in
          let same : made.0 ≡ t = cc in
          room_for (λ ns both. subst (Within ns) same (within_both ns sight.0 r.0 made.0 made.2.tests both.0 both.1)) (policy_room sight.0 r.0 sight.1 r.1)

      -- which are in the store
      pub departures_within : (whole : List (Tree (List Departure))) (node : ℕ) → DepartsOrDropsAt seen root us here whole node → node < length whole
      departures_within whole node departs =
          let p = at_place us policy within in
          let r = restricts p.0 p.1 in
          let made = departs sight.0 r.0 sight.1 r.1 in
          slice_get_within whole node made.0 made.1
