-- The departures of packets by writes: of one, of several, and of those at the leaves of a tree.
use Rattle.std.proofs.Common.{ℕ, ◌<◌, ◌≡◌, ◌∙◌, ◌⊎◌, Bool, true, false, List, [], ◌∷◌, ◌++◌, length, Some, if◌then◌else◌, inl, inr, refl}
use Rattle.std.proofs.Common.{sym, ap, subst, append-nil, ◌==◌, eqb-true}
use Rattle.std.specs.Prelude.{slice_get}
use Rattle.std.proofs.lemmas.Option.{slice_get_within}
use Rattle.std.proofs.lemmas.List.Concat.{flat_map-append}
use Rattle.indexmap.specs.IndexMap.{IndexMap, Updates}
use Rattle.pq_fields.specs.declared.field.Field.{Field}
use Rattle.pq_fields.specs.Order.{writes_eq}
use Rattle.pq_fields.specs.Packet.{Numbers}
use Rattle.pq_fields.specs.Writes.{Written}
use Rattle.pq_fields.proofs.Places.{same_writes}
use Rattle.pq_store.specs.declared.test.Test.{Test}
use Rattle.pq_store.specs.declared.test.Test.TheVariants.{Equal}
use Rattle.pq_store.specs.Test.{passes}
use Rattle.pq_store.specs.Tree.{Tree, IsTested, value}
use Rattle.pq_store.specs.Tree.Tree.{Tip, Fork}
use Rattle.pq_store.specs.Room.{HasRoom, Within}
use Rattle.pq_store.specs.Store.{Keeps, ShowsBranch}
use Rattle.pq_lists.proofs.Places.{at_place}
use Rattle.pq_store.proofs.RoomLemmas.{room_for}
use Rattle.pq_apply.specs.Memo.{Remembers}
use Rattle.pq_apply.specs.Product.{FitTogetherAt, IsProduct}
use Rattle.pq_apply.proofs.Kept.{tree_before}
use Rattle.pq_apply.proofs.Remembered.{remembers_more, remembers_still}
use Rattle.pq_rewrite.proofs.Told.{test_within}
use Rattle.pq_join.proofs.Mapping.{within_both}
use Rattle.pq_join.specs.declared.departure.Departure.{Departure}
use Rattle.pq_join.specs.declared.sight.Seen.{Seen}
use Rattle.pq_join.specs.Fronts.{ChoosesByTestAt, FitByTestAt, StartsAt}
use Rattle.pq_join.specs.Maps.{FitsAloneAt, MapsAt}
use Rattle.pq_join.specs.Overwriting.{OverwritesAt}
use Rattle.pq_join.specs.Departing.{AppendsAt, DepartsAt, DepartsFromAt, IsDeparting, departures_by, departures_of}

-- departures stay while both stores grow
pub departs_still : (u : Tree (List Written)) (ts us : List (Tree Seen)) (root : ℕ) (old new : List (Tree (List Departure))) (id : ℕ)
    → Keeps ts us → Keeps old new
    → DepartsAt u ts root old id → DepartsAt u us root new id
departs_still u ts us root old new id keeps more departs = record {
  seen = departs.seen;
  made = departs.made;
  seen_is = keeps root departs.seen departs.seen_is;
  made_is = more id departs.made departs.made_is;
  departs = departs.departs;
}

-- their tree is in the store
pub departs_within : (u : Tree (List Written)) (ts : List (Tree Seen)) (root : ℕ) (into : List (Tree (List Departure))) (id : ℕ)
    → DepartsAt u ts root into id → id < length into
departs_within u ts root into id departs = slice_get_within into id departs.made departs.made_is

-- what is required of the sight stays
pub starts_still : (f : Field) (ts us : List (Tree Seen)) (root : ℕ) → Keeps ts us → root < length ts → StartsAt f ts root → StartsAt f us root
starts_still f ts us root keeps within starts t is = starts t (tree_before ts us root t keeps within is)

pub alone_still : (ts us : List (Tree Seen)) (root : ℕ) → Keeps ts us → root < length ts → FitsAloneAt ts root → FitsAloneAt us root
alone_still ts us root keeps within fits t is = fits t (tree_before ts us root t keeps within is)

-- The departure by one writes.

-- the sight of the packet written is in the store
pub written_within : (w : Written) (ts us : List (Tree Seen)) (root k : ℕ) → root < length ts → OverwritesAt w ts root us k → k < length us
written_within w ts us root k within overwrites =
    let whole = at_place ts root within in
    let made = overwrites whole.0 whole.1 in
    slice_get_within us k made.0 made.1

-- the sight of the packet written fits alone
pub written_fits : (w : Written) (ts us : List (Tree Seen)) (root k : ℕ) → root < length ts → FitsAloneAt ts root
    → OverwritesAt w ts root us k → FitsAloneAt us k
written_fits w ts us root k within fits overwrites t is =
    let whole = at_place ts root within in
    let made = overwrites whole.0 whole.1 in
    let made_is = made.1 in
    let same : made.0 ≡ t = cc in
    subst (λ u. HasRoom (λ ns. Within ns u)) same (room_for (λ ns inside f v tested. inside f v (made.2.tests (Equal f v) tested)) (fits whole.0 whole.1))

-- and where each of its leaves becomes the departure, the diagram is that of the departure
pub written_departs : (w : Written) (ts us : List (Tree Seen)) (root k : ℕ) (into : List (Tree (List Departure))) (id : ℕ) (R : Seen → Bool
    → List Departure → Type 0)
    → ((s : Seen) (b : Bool) (ds : List Departure) → R s b ds → ds ≡ departures_by w s) → root < length ts → Keeps ts us
    → OverwritesAt w ts root us k → MapsAt R us k into id
    → DepartsAt (Tip (w ∷ [])) us root into id
written_departs w ts us root k into id R tells within keeps overwrites maps =
    let whole = at_place ts root within in
    let moved = overwrites whole.0 whole.1 in
    let mapped = maps moved.0 moved.1 in
    record {
      seen = whole.0;
      made = mapped.0;
      seen_is = keeps root whole.0 whole.1;
      made_is = mapped.1;
      departs = record {
        gives = λ x. tells (value moved.0 x) true (value mapped.0 x) (mapped.2.gives x)
            ∙ (ap (departures_by w) (moved.2.gives x) ∙ sym (append-nil (departures_by w _)));
        tests = λ s tested. inl (moved.2.tests s (mapped.2.tests s tested));
      };
    }

-- departures by writes that were made are remembered
abbrev pub Knows : {S : Type 0} → List (Tree Seen) → ℕ → List (Tree (List Departure)) → IndexMap Written ℕ S → Type 0
Knows ts root into made = Remembers writes_eq (λ key id. DepartsAt (Tip (key ∷ [])) ts root into id) made

pub knows_still : {S : Type 0} (ts us : List (Tree Seen)) (root : ℕ) (old new : List (Tree (List Departure))) (made : IndexMap Written ℕ S)
    → Keeps ts us → Keeps old new
    → Knows ts root old made → Knows us root new made
knows_still ts us root old new made keeps more knows =
    remembers_still writes_eq (λ key id. DepartsAt (Tip (key ∷ [])) ts root old id) (λ key id. DepartsAt (Tip (key ∷ [])) us root new id) made
    (λ key id departs. departs_still (Tip (key ∷ [])) ts us root old new id keeps more departs) knows

pub knows_more : {S : Type 0} (w : Written) (ts us : List (Tree Seen)) (root : ℕ) (old new : List (Tree (List Departure))) (id : ℕ)
    (made more : IndexMap Written ℕ S) → Keeps ts us → Keeps old new
    → Knows ts root old made → DepartsAt (Tip (w ∷ [])) us root new id → Updates writes_eq made more w (Some id) → Knows us root new more
knows_more w ts us root old new id made more keeps grows knows departs updates =
    remembers_more writes_eq (λ key id. DepartsAt (Tip (key ∷ [])) us root new id) made more w id (λ v u equal. (same_writes v u).0 equal)
    (knows_still ts us root old new made keeps grows knows) departs updates

-- The departures by several.

pub none_depart : (ts : List (Tree Seen)) (root : ℕ) (into : List (Tree (List Departure))) (id : ℕ) → root < length ts
    → slice_get into id ≡ Some (Tip []) → DepartsAt (Tip []) ts root into id
none_depart ts root into id within leaf =
    let whole = at_place ts root within in
    record {
      seen = whole.0;
      made = Tip [];
      seen_is = whole.1;
      made_is = leaf;
      departs = record { gives = λ x. refl; tests = λ s tested. absurd tested };
    }

-- two diagrams of departures fit together
pub both_fit : (v w : List Written) (ts : List (Tree Seen)) (root : ℕ) (into : List (Tree (List Departure))) (x y : ℕ) → FitsAloneAt ts root
    → DepartsAt (Tip v) ts root into x → DepartsAt (Tip w) ts root into y → FitTogetherAt into x into y
both_fit v w ts root into x y fits left right t u t_is u_is =
    let left_is = left.made_is in
    let right_is = right.made_is in
    let left_seen = left.seen_is in
    let right_seen = right.seen_is in
    let t_same : left.made ≡ t = cc in
    let u_same : right.made ≡ u = cc in
    let seen_same : right.seen ≡ left.seen = cc in
    let left_departs = left.departs in
    let right_departs = right.departs in
    room_for (λ ns inside. (
      subst (Within ns) t_same (within_both ns left.seen (Tip v) left.made left_departs.tests inside (λ f n tested. absurd tested)),
      subst (Within ns) u_same (within_both ns right.seen (Tip w) right.made right_departs.tests (subst (Within ns) (sym seen_same) inside)
          (λ f n tested. absurd tested)),
    )) (fits left.seen left.seen_is)

-- one after another they are those of both
pub both_depart : (v w : List Written) (ts : List (Tree Seen)) (root : ℕ) (old new : List (Tree (List Departure))) (x y id : ℕ)
    → DepartsAt (Tip v) ts root old x → DepartsAt (Tip w) ts root old y → AppendsAt old x y new id → DepartsAt (Tip (v ++ w)) ts root new id
both_depart v w ts root old new x y id left right appends =
    let left_seen = left.seen_is in
    let right_seen = right.seen_is in
    let seen_same : right.seen ≡ left.seen = cc in
    let made = appends left.made right.made left.made_is right.made_is in
    let left_departs = left.departs in
    let right_departs : IsDeparting left.seen (Tip w) right.made = subst (λ t. IsDeparting t (Tip w) right.made) seen_same right.departs in
    record {
      seen = left.seen;
      made = made.0;
      seen_is = left.seen_is;
      made_is = made.1;
      departs = record {
        gives = λ p. made.2.gives p ∙ ((λ i. left_departs.gives p i ++ right_departs.gives p i)
            ∙ sym (flat_map-append (λ z. departures_by z (value left.seen _)) v w));
        tests = λ s tested. elim (made.2.tests s tested) [ inl own ↦ left_departs.tests s own | inr own ↦ right_departs.tests s own ];
      };
    }

-- a product by appending has the departures of both
pub product_appends : (R : List Departure → List Departure → List Departure → Type 0) → ((v w ds : List Departure) → R v w ds → ds ≡ v ++ w)
    → (old new : List (Tree (List Departure))) (x y id : ℕ) → IsProduct R old x old y new id → AppendsAt old x y new id
product_appends R tells old new x y id product t u t_is u_is = (
  product.product,
  product.is,
  record {
    gives = λ p. tells (value t p) (value u p) (value product.product p) (product.gives t u t_is u_is p);
    tests = product.tests t u t_is u_is;
  },
)

-- Those at the leaves of a tree.

-- the sight fits alone where it fits with the tree
pub sight_alone : (ts : List (Tree Seen)) (root : ℕ) (us : List (Tree (List Written))) (node : ℕ) → node < length us
    → FitTogetherAt ts root us node → FitsAloneAt ts root
sight_alone ts root us node within fits t is = let u = at_place us node within in room_for (λ ns both. both.0) (fits t u.0 is u.1)

module _ (us : List (Tree (List Written))) (node i j : ℕ) (s : Test) (shows : ShowsBranch us node s i j) where
  -- the sides fit where the fork does
  pub yes_fits : (ts ts2 : List (Tree Seen)) (root : ℕ) → Keeps ts ts2 → root < length ts → FitTogetherAt ts root us node → FitTogetherAt ts2 root us i
  yes_fits ts ts2 root keeps within fits t u t_is u_is =
      let yes = shows.yes_is in
      let same : shows.yes_tree ≡ u = cc in
      room_for (λ ns both. (both.0, subst (Within ns) same (λ f v tested. both.1 f v (inr (inl tested)))))
      (fits t _ (tree_before ts ts2 root t keeps within t_is) shows.is)

  pub no_fits : (ts ts2 : List (Tree Seen)) (root : ℕ) → Keeps ts ts2 → root < length ts → FitTogetherAt ts root us node → FitTogetherAt ts2 root us j
  no_fits ts ts2 root keeps within fits t u t_is u_is =
      let no = shows.no_is in
      let same : shows.no_tree ≡ u = cc in
      room_for (λ ns both. (both.0, subst (Within ns) same (λ f v tested. both.1 f v (inr (inr tested)))))
      (fits t _ (tree_before ts ts2 root t keeps within t_is) shows.is)

  module _ (ts old : List (Tree Seen)) (root : ℕ) (into : List (Tree (List Departure))) (a b : ℕ) (left : DepartsFromAt us i ts root into a)
      (right : DepartsFromAt us j ts root into b) where
    yes_departs : DepartsAt shows.yes_tree ts root into a
    yes_departs = left shows.yes_tree shows.yes_is

    no_departs : DepartsAt shows.no_tree ts root into b
    no_departs = right shows.no_tree shows.no_is

    -- both have one sight
    seen_same : (no_departs).seen ≡ (yes_departs).seen
    seen_same =
        let one = (yes_departs).seen_is in
        let other = (no_departs).seen_is in
        cc

    no_departing : IsDeparting (yes_departs).seen shows.no_tree (no_departs).made
    no_departing = subst (λ t. IsDeparting t shows.no_tree (no_departs).made) seen_same (no_departs).departs

    -- each side has the departures of its side
    side_value : (c : Bool) (x : Numbers) → (if c then value (yes_departs).made x else value (no_departs).made x)
        ≡ departures_of (yes_departs).seen x (if c then value shows.yes_tree x else value shows.no_tree x)
    side_value true x = let d = (yes_departs).departs in d.gives x
    side_value false x = (no_departing).gives x

    -- the departures of the sides may be chosen from
    pub sides_choose : Keeps old ts → root < length old → FitTogetherAt old root us node → FitByTestAt s into a b
    sides_choose keeps within fits y n y_is n_is =
        let left_is = (yes_departs).made_is in
        let right_is = (no_departs).made_is in
        let y_same : (yes_departs).made ≡ y = cc in
        let n_same : (no_departs).made ≡ n = cc in
        let yes_departing = (yes_departs).departs in
        let seen_is = tree_before old ts root (yes_departs).seen keeps within (yes_departs).seen_is in
        room_for (λ ns both. (
          test_within ns s shows.yes_tree shows.no_tree both.1,
          subst (Within ns) y_same (within_both ns (yes_departs).seen shows.yes_tree (yes_departs).made yes_departing.tests both.0
              (λ f v tested. both.1 f v (inr (inl tested)))),
          subst (Within ns) n_same (within_both ns (yes_departs).seen shows.no_tree (no_departs).made (no_departing).tests both.0
              (λ f v tested. both.1 f v (inr (inr tested)))),
        )) (fits (yes_departs).seen _ seen_is shows.is)

    -- and the choice by the test has those of the fork
    pub fork_departs : (new : List (Tree (List Departure))) (id : ℕ) → ChoosesByTestAt s into a b new id → DepartsFromAt us node ts root new id
    fork_departs new id chooses u u_is =
        let whole = shows.is in
        let same : Fork s shows.yes_tree shows.no_tree ≡ u = cc in
        let made = chooses (yes_departs).made (no_departs).made (yes_departs).made_is (no_departs).made_is in
        subst (λ w. DepartsAt w ts root new id) same (record {
          seen = (yes_departs).seen;
          made = made.0;
          seen_is = (yes_departs).seen_is;
          made_is = made.1;
          departs = record { gives = λ x. made.2.gives x ∙ side_value (passes s x) x; tests = tests made.0 made.2.tests };
        })
      where
        tests : (r : Tree (List Departure)) → ((q : Test) → IsTested q r → (q ≡ s) ⊎ (IsTested q (yes_departs).made ⊎ IsTested q (no_departs).made))
            → (q : Test) → IsTested q r → IsTested q (yes_departs).seen ⊎ IsTested q (Fork s shows.yes_tree shows.no_tree)
        tests r only q tested = elim (only q tested) [
          | inl here ↦ inr (inl here)
          | inr side ↦ elim side [
            | inl own ↦ let d = (yes_departs).departs in elim (d.tests q own) [ inl told ↦ inl told | inr side_own ↦ inr (inr (inl side_own)) ]
            | inr own ↦ elim ((no_departing).tests q own) [ inl told ↦ inl told | inr side_own ↦ inr (inr (inr side_own)) ]
          ]
        ]

-- the tree at a leaf is that of its writes
pub leaf_departs : (us : List (Tree (List Written))) (node : ℕ) (ws : List Written) (ts : List (Tree Seen)) (root : ℕ)
    (into : List (Tree (List Departure))) (id : ℕ)
    → slice_get us node ≡ Some (Tip ws) → DepartsAt (Tip ws) ts root into id → DepartsFromAt us node ts root into id
leaf_departs us node ws ts root into id is departs u u_is = let same : Tip ws ≡ u = cc in subst (λ w. DepartsAt w ts root into id) same departs

-- departures that were made for nodes are remembered
abbrev pub KnowsFrom : {S : Type 0} → List (Tree (List Written)) → List (Tree Seen) → ℕ → List (Tree (List Departure)) → IndexMap ℕ ℕ S → Type 0
KnowsFrom us ts root into done = Remembers (λ x y. x == y) (λ key id. DepartsFromAt us key ts root into id) done

pub from_still : (us : List (Tree (List Written))) (ts ts2 : List (Tree Seen)) (root : ℕ) (old new : List (Tree (List Departure)))
    (k id : ℕ) → Keeps ts ts2 → Keeps old new
    → DepartsFromAt us k ts root old id → DepartsFromAt us k ts2 root new id
from_still us ts ts2 root old new k id keeps more departs u u_is = departs_still u ts ts2 root old new id keeps more (departs u u_is)

pub from_more : {S : Type 0} (us : List (Tree (List Written))) (ts ts2 : List (Tree Seen)) (root : ℕ)
    (old new : List (Tree (List Departure))) (k id : ℕ) (done more : IndexMap ℕ ℕ S)
    → Keeps ts ts2 → Keeps old new → KnowsFrom us ts root old done → DepartsFromAt us k ts2 root new id
    → Updates (λ x y. x == y) done more k (Some id) → KnowsFrom us ts2 root new more
from_more us ts ts2 root old new k id done more keeps grows knows departs updates =
    remembers_more (λ x y. x == y) (λ key i. DepartsFromAt us key ts2 root new i) done more k id eqb-true
    (remembers_still (λ x y. x == y) (λ key i. DepartsFromAt us key ts root old i) (λ key i. DepartsFromAt us key ts2 root new i) done
    (λ key i departs. from_still us ts ts2 root old new key i keeps grows departs) knows) departs updates

pub from_within : (us : List (Tree (List Written))) (k : ℕ) (ts : List (Tree Seen)) (root : ℕ) (into : List (Tree (List Departure))) (id : ℕ) → k < length us
    → DepartsFromAt us k ts root into id → id < length into
from_within us k ts root into id within departs = let u = at_place us k within in departs_within u.0 ts root into id (departs u.0 u.1)
