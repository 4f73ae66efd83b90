-- Departures, with a drop of the packets that have none.
use Rattle.std.proofs.Common.{ℕ, ◌<◌, ◌≡◌, ◌∙◌, List, inl, inr, subst}
use Rattle.std.specs.Prelude.{length}
use Rattle.pq_fields.specs.declared.field.Field.TheVariants.{Port}
use Rattle.pq_fields.specs.Writes.{Written}
use Rattle.pq_store.specs.declared.test.Test.TheVariants.{Equal}
use Rattle.pq_store.specs.Tree.{Tree, value}
use Rattle.pq_store.specs.Room.{Within}
use Rattle.pq_store.specs.Store.{Keeps}
use Rattle.pq_lists.proofs.Places.{at_place}
use Rattle.pq_store.proofs.RoomLemmas.{room_for}
use Rattle.pq_apply.specs.Product.{FitTogetherAt, IsProduct}
use Rattle.pq_apply.specs.Restriction.{RestrictsAt}
use Rattle.pq_apply.proofs.Kept.{tree_before}
use Rattle.pq_join.proofs.Mapping.{within_both}
use Rattle.pq_join.specs.declared.departure.Departure.{Departure}
use Rattle.pq_join.specs.declared.sight.Seen.{Seen}
use Rattle.pq_join.specs.Departing.{DepartsFromAt, IsDeparting}
use Rattle.pq_join.specs.Drops.{DepartsOrDropsAt, DropsAt, or_drop}

-- the product that puts a drop where there are no departures
pub product_drops : (R : List Departure → Seen → List Departure → Type 0)
    → ((v : List Departure) (s : Seen) (ds : List Departure) → R v s ds → ds ≡ or_drop v s)
    → (ts : List (Tree (List Departure))) (i : ℕ) (ss : List (Tree Seen)) (j : ℕ) (into : List (Tree (List Departure))) (id : ℕ)
    → IsProduct R ts i ss j into id → DropsAt ts i ss j into id
product_drops R tells ts i ss j into id product t s t_is s_is = (
  product.product,
  product.is,
  record {
    gives = λ p. tells (value t p) (value s p) (value product.product p) (product.gives t s t_is s_is p);
    tests = product.tests t s t_is s_is;
  },
)

module _ (us : List (Tree (List Written))) (node : ℕ) (ts ts2 : List (Tree Seen)) (root : ℕ) (into : List (Tree (List Departure)))
    (id k : ℕ) (keeps : Keeps ts ts2) (within : root < length ts)
    (inside : node < length us) (departs : DepartsFromAt us node ts2 root into id) (restricts : RestrictsAt Port 0 ts2 root ts2 k) where
  -- departures and the sight at port 0 fit together
  pub drops_fit : FitTogetherAt ts root us node → FitTogetherAt into id ts2 k
  drops_fit fits t u t_is u_is =
      let w = at_place us node inside in
      let d = departs w.0 w.1 in
      let d_is = d.made_is in
      let r = restricts d.seen d.seen_is in
      let r_is = r.1 in
      let departing = d.departs in
      let t_same : d.made ≡ t = cc in
      let u_same : r.0 ≡ u = cc in
      room_for (λ ns both. (
        subst (Within ns) t_same (within_both ns d.seen w.0 d.made departing.tests both.0 both.1),
        subst (Within ns) u_same (λ f v tested. both.0 f v (r.2.tests (Equal f v) tested)),
      )) (fits d.seen w.0 (tree_before ts ts2 root d.seen keeps within d.seen_is) w.1)

  -- and make the departures or drops
  pub drops_made : (new : List (Tree (List Departure))) (id2 : ℕ) → DropsAt into id ts2 k new id2 → DepartsOrDropsAt ts root us node new id2
  drops_made new id2 drops t u t_is u_is =
      let d = departs u u_is in
      let there = keeps root t t_is in
      let d_seen = d.seen_is in
      let same : d.seen ≡ t = cc in
      let departing = subst (λ s. IsDeparting s u d.made) same d.departs in
      let r = restricts t there in
      let made = drops d.made r.0 d.made_is r.1 in (
        made.0,
        made.1,
        record {
          gives = λ x. made.2.gives x ∙ (λ i. or_drop (departing.gives x i) (r.2.gives x i));
          tests = λ q tested. elim (made.2.tests q tested) [ inl own ↦ departing.tests q own | inr own ↦ inl (r.2.tests q own) ];
        },
      )
