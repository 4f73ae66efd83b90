-- Diagrams made of those of operands.
use Rattle.std.proofs.Common.{ℕ, ◌<◌, ◌≤◌, ◌≡◌, ◌∙◌, Bool, true, false, not, List, [], ◌∷◌, ◌++◌, map, take, drop, get_or, length, Some}
use Rattle.std.proofs.Common.{if◌then◌else◌, refl, sym, ap, subst, inl, inr, arith}
use Rattle.std.specs.Prelude.{◌&&◌, ◌||◌, slice_get, All}
use Rattle.std.specs.List.{list_all, list_any}
use Rattle.std.proofs.lemmas.List.{take-append-drop, take-map, drop-map}
use Rattle.std.proofs.lemmas.List.Folds.{list_all-append, list_any-append}
use Rattle.std.proofs.lemmas.List.Elements.{All-nil, All-cons, All-head, All-tail, All-take, All-drop, All-weaker}
use Rattle.std.proofs.lemmas.Option.{get_or_from_slice_get, slice_get-get_or, slice_get_within}
use Rattle.pq_fields.specs.declared.field.Field.{Field}
use Rattle.pq_store.specs.declared.test.Test.TheVariants.{Equal}
use Rattle.pq_store.specs.Tree.{Tree, value, IsTested}
use Rattle.pq_store.specs.Tree.Tree.{Tip}
use Rattle.pq_store.specs.Store.{Keeps}
use Rattle.pq_lists.proofs.Places.{at_place}
use Rattle.pq_store.specs.Room.{Within}
use Rattle.pq_apply.specs.Choice.{FitAsChoice, FitAsChoiceAt, IsChoice, ChoosesAt}
use Rattle.pq_apply.specs.Junction.{joined, trees_at, FitTogetherAll, IsJunction, JunctionAt, IsRecoding, RecodesAt}
use Rattle.pq_store.proofs.RoomLemmas.{room_for, tip_within}
use Rattle.pq_apply.proofs.Kept.{within_still, tree_before}

-- what a tree within numbers tests is within them
within_part : {A B : Type 0} (ns : Field → List ℕ) (t : Tree A) (u : Tree B)
    → ((f : Field) (v : ℕ) → IsTested (Equal f v) u → IsTested (Equal f v) t) → Within ns t → Within ns u
within_part ns t u tests within f v tested = within f v (tests f v tested)

-- one tree may come together with two leaves
pub leaves_fit : {L : Type 0} (cs : List (Tree Bool)) (ts : List (Tree L)) (k i j : ℕ) (a b : L)
    → ((t : Tree Bool) → slice_get cs k ≡ Some t → FitTogetherAll (t ∷ []))
    → slice_get ts i ≡ Some (Tip a) → slice_get ts j ≡ Some (Tip b) → FitAsChoiceAt cs k ts i j
leaves_fit cs ts k i j a b fit yes_is no_is c y n c_is y_is n_is =
    let e : Tip a ≡ y = cc in
    let f : Tip b ≡ n = cc in
    room_for (λ ns within. (All-head (Within ns) c [] within, subst (Within ns) e (tip_within ns a), subst (Within ns) f (tip_within ns b))) (fit c c_is)

-- a choice between two leaves
pub leaves_chosen : (cs old new : List (Tree Bool)) (k i j id : ℕ) (a b : Bool) → slice_get old i ≡ Some (Tip a) → slice_get old j ≡ Some (Tip b)
    → ChoosesAt cs k old i j new id → RecodesAt a b cs k new id
leaves_chosen cs old new k i j id a b yes_is no_is chooses t t_is =
    let found = chooses t (Tip a) (Tip b) t_is yes_is no_is in
    let choice = found.2 in (
      found.0,
      found.1,
      record {
        gives = choice.gives;
        tests = λ s tested. elim (choice.tests s tested) [ inl here ↦ here | inr leaf ↦ absurd (elim leaf [ inl none ↦ none | inr none ↦ none ]) ];
      },
    )

-- two trees that may come together, one of them recoded, may do so with a leaf
pair_fits : (c t y n : Tree Bool) → FitTogetherAll (t ∷ y ∷ []) → IsRecoding true false t c → (l : Bool) → n ≡ Tip l → FitAsChoice c y n × FitAsChoice c n y
pair_fits c t y n fit recodes l leaf =
    let within_all : (ns : Field → List ℕ) → All (Within ns) (t ∷ y ∷ []) → Within ns c × Within ns y × Within ns n =
    λ ns within. (
      within_part ns t c (λ f v. recodes.tests (Equal f v)) (All-head (Within ns) t (y ∷ []) within),
      All-head (Within ns) y [] (All-tail (Within ns) t (y ∷ []) within),
      subst (Within ns) (sym leaf) (tip_within ns l),
    ) in (
      room_for within_all fit,
      room_for (λ ns within. let all = within_all ns within in (all.0, all.2, all.1)) fit,
    )

-- the choice of a second tree where the first holds
pub both_hold : (t u c w : Tree Bool) → IsRecoding true false t c → IsChoice c u (Tip false) w → IsJunction true (t ∷ u ∷ []) w
both_hold t u c w recodes choice = record {
  gives = λ x. by (value t x) (value u x) (value c x) (value w x) (recodes.gives x) (choice.gives x);
  tests = λ ns all f v tested. elim (choice.tests (Equal f v) tested) [
    | inl in_c ↦ All-head (Within ns) t (u ∷ []) all f v (recodes.tests (Equal f v) in_c)
    | inr side ↦ elim side [ inl in_u ↦ All-head (Within ns) u [] (All-tail (Within ns) t (u ∷ []) all) f v in_u | inr none ↦ absurd none ]
  ];
}
  where
    by : (a b c w : Bool) → c ≡ (if a then true else false) → w ≡ (if c then b else false) → w ≡ joined true (a ∷ b ∷ [])
    by true true c w c_is w_is = w_is ∙ ap (λ k. if k then true else false) c_is
    by true false c w c_is w_is = w_is ∙ ap (λ k. if k then false else false) c_is
    by false b c w c_is w_is = w_is ∙ ap (λ k. if k then b else false) c_is

-- the choice of a second tree where the first doesn't hold
pub one_holds : (t u c w : Tree Bool) → IsRecoding true false t c → IsChoice c (Tip true) u w → IsJunction false (t ∷ u ∷ []) w
one_holds t u c w recodes choice = record {
  gives = λ x. by (value t x) (value u x) (value c x) (value w x) (recodes.gives x) (choice.gives x);
  tests = λ ns all f v tested. elim (choice.tests (Equal f v) tested) [
    | inl in_c ↦ All-head (Within ns) t (u ∷ []) all f v (recodes.tests (Equal f v) in_c)
    | inr side ↦ elim side [ inl none ↦ absurd none | inr in_u ↦ All-head (Within ns) u [] (All-tail (Within ns) t (u ∷ []) all) f v in_u ]
  ];
}
  where
    by : (a b c w : Bool) → c ≡ (if a then true else false) → w ≡ (if c then true else b) → w ≡ joined false (a ∷ b ∷ [])
    by true b c w c_is w_is = w_is ∙ ap (λ k. if k then true else b) c_is
    by false true c w c_is w_is = w_is ∙ ap (λ k. if k then true else true) c_is
    by false false c w c_is w_is = w_is ∙ ap (λ k. if k then true else false) c_is

-- places within keep their trees
pub trees_still : (old new : List (Tree Bool)) (ids : List ℕ) → Keeps old new → All (λ id. id < length old) ids → trees_at new ids ≡ trees_at old ids
trees_still old new [] keeps within = refl
trees_still old new (id ∷ ids) keeps within =
    let here : id < length old = All-head (λ k. k < length old) id ids within in
    let same : get_or new id (Tip false) ≡ get_or old id (Tip false) =
    get_or_from_slice_get new id (get_or old id (Tip false)) (Tip false) (keeps id (get_or old id (Tip false)) (slice_get-get_or old id (Tip false) here)) in
    let more = trees_still old new ids keeps (All-tail (λ k. k < length old) id ids within) in
    ap (λ t. t ∷ trees_at new ids) same ∙ ap (λ ts. get_or old id (Tip false) ∷ ts) more

-- one operand is its junction
pub one_joined : (every : Bool) (u : Tree Bool) → IsJunction every (u ∷ []) u
one_joined every u = record { gives = λ x. by every (value u x); tests = λ ns all. All-head (Within ns) u [] all }
  where
    by : (every b : Bool) → b ≡ joined every (b ∷ [])
    by true true = refl
    by true false = refl
    by false true = refl
    by false false = refl

-- the junction of the tree at one place
pub one_at : (every : Bool) (ts : List (Tree Bool)) (ids : List ℕ) (i : ℕ) → length ids < 2 → 1 ≤ length ids → i ≡ get_or ids 0 i
    → All (λ id. id < length ts) ids → JunctionAt every (trees_at ts ids) ts i
one_at every ts [] i short long is within = absurd (omega arith)
one_at every ts (id ∷ []) i short long is within = (
  get_or ts id (Tip false),
  ap (slice_get ts) is ∙ slice_get-get_or ts id (Tip false) (All-head (λ k. k < length ts) id [] within),
  one_joined every (get_or ts id (Tip false)),
)
one_at every ts (a ∷ b ∷ ids) i short long is within = absurd (omega arith)

-- the junction of two lists is that of their junctions
joined_both : (every : Bool) (xs ys : List Bool) → joined every (joined every xs ∷ joined every ys ∷ []) ≡ joined every (xs ++ ys)
joined_both true xs ys = by (list_all (λ b. b) xs) (list_all (λ b. b) ys) ∙ sym (list_all-append (λ b. b) xs ys)
  where
    by : (a b : Bool) → list_all (λ b. b) (a ∷ b ∷ []) ≡ (a && b)
    by true true = refl
    by true false = refl
    by false b = refl
joined_both false xs ys = by (list_any (λ b. b) xs) (list_any (λ b. b) ys) ∙ sym (list_any-append (λ b. b) xs ys)
  where
    by : (a b : Bool) → list_any (λ b. b) (a ∷ b ∷ []) ≡ (a || b)
    by true b = refl
    by false true = refl
    by false false = refl

-- so trees are joined by halves
pub halves_joined : (every : Bool) (m : ℕ) (us : List (Tree Bool)) (t u w : Tree Bool) → IsJunction every (take m us) t → IsJunction every (drop m us) u
    → IsJunction every (t ∷ u ∷ []) w → IsJunction every us w
halves_joined every m us t u w front back both = record {
  gives = λ x.
      both.gives x
      ∙ ((λ k. joined every (front.gives x k ∷ back.gives x k ∷ []))
      ∙ (joined_both every (map (λ v. value v x) (take m us)) (map (λ v. value v x) (drop m us))
      ∙ (ap (λ bs. joined every (bs ++ map (λ v. value v x) (drop m us))) (sym (take-map (λ v. value v x) m us))
      ∙ (ap (λ bs. joined every (take m (map (λ v. value v x) us) ++ bs)) (sym (drop-map (λ v. value v x) m us))
      ∙ ap (joined every) (take-append-drop m (map (λ v. value v x) us))))));
  tests = λ ns all. both.tests ns (All-cons (Within ns) t (u ∷ []) (front.tests ns (All-take (Within ns) m us all))
      (All-cons (Within ns) u [] (back.tests ns (All-drop (Within ns) m us all)) (All-nil (Within ns))));
}

-- of trees that may come together the first may
pub front_fits : (m : ℕ) (us : List (Tree Bool)) → FitTogetherAll us → FitTogetherAll (take m us)
front_fits m us = room_for (λ ns within. All-take (Within ns) m us within)

-- and those after them
pub back_fits : (m : ℕ) (us : List (Tree Bool)) → FitTogetherAll us → FitTogetherAll (drop m us)
back_fits m us = room_for (λ ns within. All-drop (Within ns) m us within)

-- and so may the junctions of both halves
pub halves_fit : (every : Bool) (m : ℕ) (us : List (Tree Bool)) (t u : Tree Bool) → FitTogetherAll us → IsJunction every (take m us) t
    → IsJunction every (drop m us) u → FitTogetherAll (t ∷ u ∷ [])
halves_fit every m us t u fit front back =
    room_for (λ ns within.
    All-cons (Within ns) t (u ∷ []) (front.tests ns (All-take (Within ns) m us within))
    (All-cons (Within ns) u [] (back.tests ns (All-drop (Within ns) m us within)) (All-nil (Within ns)))) fit

-- the trees at the first places
front_at : (ts : List (Tree Bool)) (ids part : List ℕ) (m : ℕ) → part ≡ take m ids → take m (trees_at ts ids) ≡ trees_at ts part
front_at ts ids part m is = take-map (λ id. get_or ts id (Tip false)) m ids ∙ ap (trees_at ts) (sym is)

-- and at those after them
back_at : (ts : List (Tree Bool)) (ids part : List ℕ) (m : ℕ) → part ≡ drop m ids → drop m (trees_at ts ids) ≡ trees_at ts part
back_at ts ids part m is = drop-map (λ id. get_or ts id (Tip false)) m ids ∙ ap (trees_at ts) (sym is)

-- the junction of the front half may be made
pub front_ready : (ts : List (Tree Bool)) (ids part : List ℕ) (m : ℕ) → part ≡ take m ids → All (λ id. id < length ts) ids → FitTogetherAll (trees_at ts ids)
    → All (λ id. id < length ts) part × FitTogetherAll (trees_at ts part)
front_ready ts ids part m is within fit = (
  subst (All (λ id. id < length ts)) (sym is) (All-take (λ id. id < length ts) m ids within),
  subst FitTogetherAll (front_at ts ids part m is) (front_fits m (trees_at ts ids) fit),
)

-- places within a store are within it later
later_within : (old new : List (Tree Bool)) (ids : List ℕ) → Keeps old new → All (λ id. id < length old) ids → All (λ id. id < length new) ids
later_within old new ids keeps within = All-weaker (λ id. id < length old) (λ id. id < length new) (λ id here. within_still old new id keeps here) ids within

-- and then that of the back half
pub back_ready : (old new : List (Tree Bool)) (ids part : List ℕ) (m : ℕ) → part ≡ drop m ids → Keeps old new
    → All (λ id. id < length old) ids → FitTogetherAll (trees_at old ids)
    → All (λ id. id < length new) part × FitTogetherAll (trees_at new part)
back_ready old new ids part m is keeps within fit =
    let part_in : All (λ id. id < length old) part = subst (All (λ id. id < length old)) (sym is) (All-drop (λ id. id < length old) m ids within) in (
      later_within old new part keeps part_in,
      subst FitTogetherAll (back_at old ids part m is ∙ sym (trees_still old new part keeps part_in)) (back_fits m (trees_at old ids) fit),
    )

-- the junctions of both halves of some trees
pub record HaveHalves (every : Bool) (m : ℕ) (us ts : List (Tree Bool)) (x y : ℕ) : Type 0 where
  pub x_tree : Tree Bool
  pub y_tree : Tree Bool
  pub x_is : slice_get ts x ≡ Some x_tree
  pub y_is : slice_get ts y ≡ Some y_tree
  pub front : IsJunction every (take m us) x_tree
  pub back : IsJunction every (drop m us) y_tree

-- are where they were made one after the other
pub have_halves : (every : Bool) (old between new : List (Tree Bool)) (ids front back : List ℕ) (m x y : ℕ) → front ≡ take m ids
    → back ≡ drop m ids → All (λ id. id < length old) ids
    → Keeps old between → Keeps between new → JunctionAt every (trees_at old front) between x
    → JunctionAt every (trees_at between back) new y → HaveHalves every m (trees_at old ids) new x y
have_halves every old between new ids front back m x y front_is back_is within first second in_front in_back =
    let back_in : All (λ id. id < length old) back = subst (All (λ id. id < length old)) (sym back_is) (All-drop (λ id. id < length old) m ids within) in
    record {
      x_tree = in_front.0;
      y_tree = in_back.0;
      x_is = second x in_front.0 in_front.1;
      y_is = in_back.1;
      front = subst (λ us. IsJunction every us in_front.0) (sym (front_at old ids front m front_is)) in_front.2;
      back = subst (λ us. IsJunction every us in_back.0) (trees_still old between back first back_in ∙ sym (back_at old ids back m back_is)) in_back.2;
    }

-- both may come together
pub halves_meet : (every : Bool) (m : ℕ) (us ts : List (Tree Bool)) (x y : ℕ) → FitTogetherAll us → HaveHalves every m us ts x y
    → (t u : Tree Bool) → slice_get ts x ≡ Some t → slice_get ts y ≡ Some u → FitTogetherAll (t ∷ u ∷ [])
halves_meet every m us ts x y fit halves t u t_is u_is =
    let x_is = halves.x_is in
    let y_is = halves.y_is in
    let e : halves.x_tree ≡ t = cc in
    let f : halves.y_tree ≡ u = cc in
    subst (λ v. FitTogetherAll (v ∷ u ∷ [])) e
    (subst (λ v. FitTogetherAll (halves.x_tree ∷ v ∷ [])) f
    (halves_fit every m us halves.x_tree halves.y_tree fit halves.front halves.back))

-- the first of two trees that may come together may do so alone
pub first_fits : (ts : List (Tree Bool)) (x y : ℕ) → y < length ts
    → ((t u : Tree Bool) → slice_get ts x ≡ Some t → slice_get ts y ≡ Some u → FitTogetherAll (t ∷ u ∷ []))
    → (t : Tree Bool) → slice_get ts x ≡ Some t → FitTogetherAll (t ∷ [])
first_fits ts x y y_in fit t t_is =
    let u = at_place ts y y_in in
    room_for (λ ns within. All-cons (Within ns) t [] (All-head (Within ns) t (u.0 ∷ []) within) (All-nil (Within ns))) (fit t u.0 t_is u.1)

-- a recoded tree, a second tree and a leaf may come together in a choice
pub record IsPairReady (cs ts : List (Tree Bool)) (condition y leaf : ℕ) : Type 0 where
  pub condition_in : condition < length cs
  pub y_in : y < length ts
  pub leaf_in : leaf < length ts
  pub leaf_no : FitAsChoiceAt cs condition ts y leaf
  pub leaf_yes : FitAsChoiceAt cs condition ts leaf y

-- where the two trees may
pub pair_ready : (cs old ts : List (Tree Bool)) (x y condition leaf : ℕ) (l : Bool) → x < length old → y < length old
    → ((t u : Tree Bool) → slice_get old x ≡ Some t → slice_get old y ≡ Some u → FitTogetherAll (t ∷ u ∷ []))
    → RecodesAt true false old x cs condition → Keeps old ts → slice_get ts leaf ≡ Some (Tip l) → IsPairReady cs ts condition y leaf
pair_ready cs old ts x y condition leaf l x_in y_in fit recodes keeps leaf_is =
    let t = at_place old x x_in in
    let r = recodes t.0 t.1 in
    record {
      condition_in = slice_get_within cs condition r.0 r.1;
      y_in = within_still old ts y keeps y_in;
      leaf_in = slice_get_within ts leaf (Tip l) leaf_is;
      leaf_no = λ c u n c_is u_is n_is. (ready c u n c_is u_is n_is).0;
      leaf_yes = λ c n u c_is n_is u_is. (ready c u n c_is u_is n_is).1;
    }
  where
    ready : (c u n : Tree Bool) → slice_get cs condition ≡ Some c → slice_get ts y ≡ Some u → slice_get ts leaf ≡ Some n → FitAsChoice c u n × FitAsChoice c n u
    ready c u n c_is u_is n_is =
        let t = at_place old x x_in in
        let r = recodes t.0 t.1 in
        let r_is = r.1 in
        let e : r.0 ≡ c = cc in
        let f : n ≡ Tip l = cc in
        pair_fits c t.0 u n (fit t.0 u t.1 (tree_before old ts y u keeps y_in u_is)) (subst (IsRecoding true false t.0) e r.2) l f

-- a choice where both are to hold
pub every_chosen : (every : Bool) (cs old ts new : List (Tree Bool)) (x y condition leaf id : ℕ) → every ≡ true
    → RecodesAt true false old x cs condition → Keeps old ts
    → slice_get ts leaf ≡ Some (Tip (not every)) → ChoosesAt cs condition ts y leaf new id
    → (t u : Tree Bool) → slice_get old x ≡ Some t → slice_get old y ≡ Some u → JunctionAt every (t ∷ u ∷ []) new id
every_chosen every cs old ts new x y condition leaf id is recodes keeps leaf_is chooses t u t_is u_is =
    let r = recodes t t_is in
    let w = chooses r.0 u (Tip false) r.1 (keeps y u u_is) (leaf_is ∙ ap (λ b. Some (Tip (not b))) is) in
    (w.0, w.1, subst (λ b. IsJunction b (t ∷ u ∷ []) w.0) (sym is) (both_hold t u r.0 w.0 r.2 w.2))

-- a choice where one of them is to hold
pub some_chosen : (every : Bool) (cs old ts new : List (Tree Bool)) (x y condition leaf id : ℕ) → every ≡ false
    → RecodesAt true false old x cs condition → Keeps old ts
    → slice_get ts leaf ≡ Some (Tip (not every)) → ChoosesAt cs condition ts leaf y new id
    → (t u : Tree Bool) → slice_get old x ≡ Some t → slice_get old y ≡ Some u → JunctionAt every (t ∷ u ∷ []) new id
some_chosen every cs old ts new x y condition leaf id is recodes keeps leaf_is chooses t u t_is u_is =
    let r = recodes t t_is in
    let w = chooses r.0 (Tip true) u r.1 (leaf_is ∙ ap (λ b. Some (Tip (not b))) is) (keeps y u u_is) in
    (w.0, w.1, subst (λ b. IsJunction b (t ∷ u ∷ []) w.0) (sym is) (one_holds t u r.0 w.0 r.2 w.2))
