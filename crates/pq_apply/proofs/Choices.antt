-- One step of a choice: what three nodes split into is made one again.
use Rattle.std.proofs.Common.{◌≡◌, ◌⊎◌, ℕ, ◌+◌, ◌<◌, Bool, true, false, List, Option, None, Some, length, refl, sym, ◌∙◌, ap, subst, inl, inr, arith}
use Rattle.std.specs.Prelude.{slice_get, if◌then◌else◌}
use Rattle.indexmap.specs.IndexMap.{IndexMap, Updates}
use Rattle.pq_fields.specs.Packet.{Numbers}
use Rattle.pq_store.specs.declared.test.Test.{Test}
use Rattle.pq_store.specs.declared.test.Test.TheVariants.{Equal}
use Rattle.pq_store.specs.Test.{IsLawful, Precedes, passes}
use Rattle.pq_store.specs.Tree.{Tree, IsTested, value}
use Rattle.pq_store.specs.Tree.Tree.{Tip, Fork}
use Rattle.pq_store.specs.Store.{AreDiagrams, IsJoinable, JoinsAt, Keeps, ShowsBranch}
use Rattle.pq_lists.proofs.Places.{at_place, one_at}
use Rattle.pq_store.proofs.Order.{precedes_trans}
use Rattle.pq_store.proofs.RoomLemmas.{room_for}
use Rattle.pq_apply.specs.Choice.{ChoosesAt, FitAsChoice, FitAsChoiceAt}
use Rattle.pq_apply.specs.Choosing.{IsChosen, IsChosenAt, IsFirstOfThree}
use Rattle.pq_apply.specs.Memo.{Remembers, same_triple}
use Rattle.pq_apply.specs.Split.{HasRootAt, IsAtOrBefore, IsEarlier, LeadsRoot, SplitsAt, root_of}
use Rattle.pq_apply.proofs.Places.{earlier_lawful, together, SidesAt, lawful_at, no_small, sides_at, sides_still, size_at, size_still, yes_small}
use Rattle.pq_apply.proofs.Remembered.{remembers_more, remembers_still, triple_exact}
use Rattle.pq_apply.proofs.Splits.{AreSides, IsJoined, IsRoot, IsSide, joinable, joined_is, root_tested, side_later, side_other}

-- what is at or before a test is so before what the test leads
leads_on : (r s : Test) (t : Option Test) → IsAtOrBefore r s → LeadsRoot s t → LeadsRoot r t
leads_on r s None first leads = tt
leads_on r s (Some t) (inl is) leads = subst (λ x. IsAtOrBefore x t) (sym is) leads
leads_on r s (Some t) (inr before) (inl is) = inr (subst (Precedes r) is before)
leads_on r s (Some t) (inr before) (inr later) = inr (precedes_trans r s t before later)

-- a choice between one and itself is it
pub one_of_same : {L : Type 0} (b : Bool) (l : L) → l ≡ (if b then l else l)
one_of_same true l = refl
one_of_same false l = refl

-- one of three trees tests it
abbrev pub IsTestedInThree : {L : Type 0} → Tree Bool → Tree L → Tree L → Test → Type 0
IsTestedInThree c y n s = IsTested s c ⊎ (IsTested s y ⊎ IsTested s n)

module _ {L : Type 0} where
  -- between a node and itself it is chosen
  pub chosen_same : (cs : List (Tree Bool)) (k : ℕ) (ts : List (Tree L)) (i j : ℕ) → k < length cs → i < length ts → AreDiagrams ts → i ≡ j
      → IsChosenAt cs k ts i j i
  chosen_same cs k ts i j within_cond within diagrams same =
      let c = at_place cs k within_cond in
      let t = at_place ts i within in
      record {
        condition = c.0;
        left = t.0;
        right = t.0;
        chosen = t.0;
        condition_is = c.1;
        left_is = t.1;
        right_is = subst (λ x. slice_get ts x ≡ Some t.0) same t.1;
        is = t.1;
        chooses = record {
          diagram = diagrams i t.0 t.1;
          choice = record { gives = λ p. one_of_same (value c.0 p) (value t.0 p); tests = λ s tested. inr (inl tested) };
        };
      }

  -- by a leaf that holds the first is chosen
  pub chosen_first : (cs : List (Tree Bool)) (k : ℕ) (ts : List (Tree L)) (i j : ℕ) → i < length ts → j < length ts → AreDiagrams ts
      → slice_get cs k ≡ Some (Tip true) → IsChosenAt cs k ts i j i
  chosen_first cs k ts i j within_yes within_no diagrams leaf =
      let y = at_place ts i within_yes in
      let n = at_place ts j within_no in
      record {
        condition = Tip true;
        left = y.0;
        right = n.0;
        chosen = y.0;
        condition_is = leaf;
        left_is = y.1;
        right_is = n.1;
        is = y.1;
        chooses = record { diagram = diagrams i y.0 y.1; choice = record { gives = λ p. refl; tests = λ s tested. inr (inl tested) } };
      }

  -- and by one that doesn't the second
  pub chosen_second : (cs : List (Tree Bool)) (k : ℕ) (ts : List (Tree L)) (i j : ℕ) → i < length ts → j < length ts → AreDiagrams ts
      → slice_get cs k ≡ Some (Tip false) → IsChosenAt cs k ts i j j
  chosen_second cs k ts i j within_yes within_no diagrams leaf =
      let y = at_place ts i within_yes in
      let n = at_place ts j within_no in
      record {
        condition = Tip false;
        left = y.0;
        right = n.0;
        chosen = n.0;
        condition_is = leaf;
        left_is = y.1;
        right_is = n.1;
        is = n.1;
        chooses = record { diagram = diagrams j n.0 n.1; choice = record { gives = λ p. refl; tests = λ s tested. inr (inr tested) } };
      }

  -- the first of a node's test and two roots is the first of the three
  pub first_of_three : (cs : List (Tree Bool)) (k : ℕ) (ts : List (Tree L)) (i j : ℕ) (r : Test) (a b : ℕ) (yes_root no_root : Option Test) (q s : Test)
      → AreDiagrams cs → AreDiagrams ts → ShowsBranch cs k r a b → i < length ts → j < length ts → HasRootAt ts i yes_root → HasRootAt ts j no_root
      → IsEarlier r yes_root q → IsEarlier q no_root s → IsFirstOfThree cs k ts i j s
  first_of_three cs k ts i j r a b yes_root no_root q s conditions diagrams shows within_yes within_no has_yes has_no earlier later =
      let y = at_place ts i within_yes in
      let n = at_place ts j within_no in
      let y_root : root_of y.0 ≡ yes_root = has_yes y.0 y.1 in
      let n_root : root_of n.0 ≡ no_root = has_no n.0 n.1 in
      let own_lawful : IsLawful r = (conditions k (Fork r shows.yes_tree shows.no_tree) shows.is).lawful.0 in
      let first_lawful : IsLawful q = earlier_lawful r yes_root q own_lawful (lawful_at ts i yes_root diagrams within_yes has_yes) earlier in
      record {
        condition = Fork r shows.yes_tree shows.no_tree;
        left = y.0;
        right = n.0;
        condition_is = shows.is;
        left_is = y.1;
        right_is = n.1;
        lawful = earlier_lawful q no_root s first_lawful (lawful_at ts j no_root diagrams within_no has_no) later;
        leads_condition = leads_on s q (Some r) later.leads_first earlier.leads_first;
        leads_left = subst (LeadsRoot s) (sym y_root) (leads_on s q yes_root later.leads_first earlier.leads_other);
        leads_right = subst (LeadsRoot s) (sym n_root) later.leads_other;
        root = root y.0 n.0 y_root n_root earlier.is later.is;
      }
    where
      root : (y n : Tree L) → root_of y ≡ yes_root → root_of n ≡ no_root → (q ≡ r) ⊎ (Some q ≡ yes_root) → (s ≡ q) ⊎ (Some s ≡ no_root)
          → ((Some r ≡ Some s) ⊎ (root_of y ≡ Some s)) ⊎ (root_of n ≡ Some s)
      root y n y_root n_root first (inr is) = inr (n_root ∙ sym is)
      root y n y_root n_root (inl same) (inl is) = inl (inl (ap Some (sym same ∙ sym is)))
      root y n y_root n_root (inr same) (inl is) = inl (inr (y_root ∙ sym same ∙ ap Some (sym is)))

  -- three nodes that are split by the first of their tests, which may come together
  pub record IsChoiceStage (cs : List (Tree Bool)) (k : ℕ) (ts : List (Tree L)) (i j : ℕ) (s : Test) (cy cn ly ln ry rn : ℕ) : Type 0 where
    pub condition : Tree Bool
    pub left : Tree L
    pub right : Tree L
    pub condition_is : slice_get cs k ≡ Some condition
    pub left_is : slice_get ts i ≡ Some left
    pub right_is : slice_get ts j ≡ Some right
    pub lawful : IsLawful s
    pub root : (IsRoot s condition ⊎ IsRoot s left) ⊎ IsRoot s right
    pub fit : FitAsChoice condition left right
    pub condition_sides : SidesAt cs s condition cy cn
    pub left_sides : SidesAt ts s left ly ln
    pub right_sides : SidesAt ts s right ry rn

  -- as they are by splits
  pub choice_stage : (cs : List (Tree Bool)) (k : ℕ) (ts : List (Tree L)) (i j : ℕ) (s : Test) (cy cn ly ln ry rn : ℕ) → AreDiagrams cs → AreDiagrams ts
      → FitAsChoiceAt cs k ts i j → IsFirstOfThree cs k ts i j s → SplitsAt cs s k cy cn → SplitsAt ts s i ly ln → SplitsAt ts s j ry rn
      → IsChoiceStage cs k ts i j s cy cn ly ln ry rn
  choice_stage cs k ts i j s cy cn ly ln ry rn conditions diagrams fit first condition left right = record {
    condition = first.condition;
    left = first.left;
    right = first.right;
    condition_is = first.condition_is;
    left_is = first.left_is;
    right_is = first.right_is;
    lawful = first.lawful;
    root = first.root;
    fit = fit first.condition first.left first.right first.condition_is first.left_is first.right_is;
    condition_sides = sides_at cs s first.condition k cy cn first.lawful conditions first.condition_is condition;
    left_sides = sides_at ts s first.left i ly ln first.lawful diagrams first.left_is left;
    right_sides = sides_at ts s first.right j ry rn first.lawful diagrams first.right_is right;
  }

  -- the three nodes stay while the store grows
  pub stage_still : {cs : List (Tree Bool)} {k : ℕ} {ts vs : List (Tree L)} {i j : ℕ} {s : Test} {cy cn ly ln ry rn : ℕ} → Keeps ts vs
      → IsChoiceStage cs k ts i j s cy cn ly ln ry rn → IsChoiceStage cs k vs i j s cy cn ly ln ry rn
  stage_still {i = i} {j = j} keeps st = record {
    condition = st.condition;
    left = st.left;
    right = st.right;
    condition_is = st.condition_is;
    left_is = keeps i st.left st.left_is;
    right_is = keeps j st.right st.right_is;
    lawful = st.lawful;
    root = st.root;
    fit = st.fit;
    condition_sides = st.condition_sides;
    left_sides = sides_still keeps st.left_sides;
    right_sides = sides_still keeps st.right_sides;
  }

  -- parts of three trees may come together where the trees may
  parts_fit : (c d : Tree Bool) (y n z m : Tree L) → ((s : Test) → IsTested s d → IsTested s c) → ((s : Test) → IsTested s z → IsTested s y)
      → ((s : Test) → IsTested s m → IsTested s n)
      → FitAsChoice c y n → FitAsChoice d z m
  parts_fit c d y n z m in_c in_y in_n = room_for (λ ns within. (
    λ f v tested. within.0 f v (in_c (Equal f v) tested),
    λ f v tested. within.1 f v (in_y (Equal f v) tested),
    λ f v tested. within.2 f v (in_n (Equal f v) tested),
  ))

  -- trees that may come together may do so at their places
  fit_there : (cs : List (Tree Bool)) (k : ℕ) (ts : List (Tree L)) (i j : ℕ) (c : Tree Bool) (y n : Tree L)
      → slice_get cs k ≡ Some c → slice_get ts i ≡ Some y → slice_get ts j ≡ Some n → FitAsChoice c y n → FitAsChoiceAt cs k ts i j
  fit_there cs k ts i j c y n c_is y_is n_is fit d z m d_is z_is m_is =
      subst (FitAsChoice d z) (one_at ts j n m n_is m_is)
      (subst (λ v. FitAsChoice d v n) (one_at ts i y z y_is z_is)
      (subst (λ v. FitAsChoice v y n) (one_at cs k c d c_is d_is) fit))

  module _ {cs : List (Tree Bool)} {k : ℕ} {ts : List (Tree L)} {i j : ℕ} {s : Test} {cy cn ly ln ry rn : ℕ}
      (st : IsChoiceStage cs k ts i j s cy cn ly ln ry rn) where
    -- the yes sides together are smaller
    pub passed_falls : size_at cs cy + size_at ts ly + size_at ts ry < size_at cs k + size_at ts i + size_at ts j
    passed_falls = (together (together (yes_small k st.condition_is st.condition_sides) (yes_small i st.left_is st.left_sides))
        (yes_small j st.right_is st.right_sides)).smaller st.root

    -- and so are the no sides, also in a store that has grown
    pub failed_falls : (vs : List (Tree L)) → Keeps ts vs → size_at cs cn + size_at vs ln + size_at vs rn < size_at cs k + size_at ts i + size_at ts j
    failed_falls vs keeps =
        let left = st.left_sides in
        let right = st.right_sides in
        let falls = (together (together (no_small k st.condition_is st.condition_sides) (no_small i st.left_is left))
        (no_small j st.right_is right)).smaller st.root in
        omega (
          arith,
          falls,
          size_still ts vs ln left.no left.no_is (keeps ln left.no left.no_is),
          size_still ts vs rn right.no right.no_is (keeps rn right.no right.no_is),
        )

    -- what the yes sides test may come together
    pub passed_fit : FitAsChoiceAt cs cy ts ly ry
    passed_fit =
        fit_there cs cy ts ly ry st.condition_sides.yes st.left_sides.yes st.right_sides.yes st.condition_sides.yes_is st.left_sides.yes_is
        st.right_sides.yes_is
        (parts_fit st.condition st.condition_sides.yes st.left st.right st.left_sides.yes st.right_sides.yes
        st.condition_sides.yes_side.tested st.left_sides.yes_side.tested st.right_sides.yes_side.tested st.fit)

    -- and so may what the no sides test
    pub failed_fit : FitAsChoiceAt cs cn ts ln rn
    failed_fit =
        fit_there cs cn ts ln rn st.condition_sides.no st.left_sides.no st.right_sides.no st.condition_sides.no_is st.left_sides.no_is st.right_sides.no_is
        (parts_fit st.condition st.condition_sides.no st.left st.right st.left_sides.no st.right_sides.no
        st.condition_sides.no_side.tested st.left_sides.no_side.tested st.right_sides.no_side.tested st.fit)

  -- what is chosen between the trees at two places is chosen between whichever trees are there
  pub chosen_there : {cs : List (Tree Bool)} {k : ℕ} {ts : List (Tree L)} {i j id : ℕ} {c : Tree Bool} {y n w : Tree L}
      → IsChosenAt cs k ts i j id → slice_get cs k ≡ Some c → slice_get ts i ≡ Some y → slice_get ts j ≡ Some n → slice_get ts id ≡ Some w → IsChosen c y n w
  chosen_there {cs} {k} {ts} {i} {j} {id} {c} {y} {n} {w} made c_is y_is n_is w_is =
      subst (IsChosen c y n) (one_at ts id made.chosen w made.is w_is)
      (subst (λ v. IsChosen c y v made.chosen) (one_at ts j made.right n made.right_is n_is)
      (subst (λ v. IsChosen c v made.right made.chosen) (one_at ts i made.left y made.left_is y_is)
      (subst (λ v. IsChosen v made.left made.right made.chosen) (one_at cs k made.condition c made.condition_is c_is) made.chooses)))

  -- it stays while the store grows
  pub chosen_still : {cs : List (Tree Bool)} {k : ℕ} {ts vs : List (Tree L)} {i j id : ℕ} → Keeps ts vs → IsChosenAt cs k ts i j id → IsChosenAt cs k vs i j id
  chosen_still {i = i} {j = j} {id = id} keeps made = record {
    condition = made.condition;
    left = made.left;
    right = made.right;
    chosen = made.chosen;
    condition_is = made.condition_is;
    left_is = keeps i made.left made.left_is;
    right_is = keeps j made.right made.right_is;
    is = keeps id made.chosen made.is;
    chooses = made.chooses;
  }

  -- a table remembers one more choice, while the store grows
  pub remembers_choice : {S : Type 0} {cs : List (Tree Bool)} {k : ℕ} {ts vs : List (Tree L)} {i j id : ℕ} (done new : IndexMap (ℕ × ℕ × ℕ) ℕ S)
      → Keeps ts vs → Remembers same_triple (λ key id. IsChosenAt cs key.0 ts key.1 key.2 id) done → IsChosenAt cs k vs i j id
      → Updates same_triple done new (k, i, j) (Some id)
      → Remembers same_triple (λ key id. IsChosenAt cs key.0 vs key.1 key.2 id) new
  remembers_choice {cs = cs} {k = k} {ts = ts} {vs = vs} {i = i} {j = j} {id = id} done new keeps remembers made updates =
      remembers_more same_triple (λ key x. IsChosenAt cs key.0 vs key.1 key.2 x) done new (k, i, j) id triple_exact
      (remembers_still same_triple (λ key x. IsChosenAt cs key.0 ts key.1 key.2 x) (λ key x. IsChosenAt cs key.0 vs key.1 key.2 x) done
      (λ key x. chosen_still keeps) remembers) made updates

  -- what is chosen between the sides of three trees may be the sides of the first test
  chosen_sides : (s : Test) (c cy cn : Tree Bool) (y ly ln n ry rn a b : Tree L) → IsLawful s → (IsRoot s c ⊎ IsRoot s y) ⊎ IsRoot s n
      → IsSide true s c cy → IsSide false s c cn → IsSide true s y ly → IsSide false s y ln → IsSide true s n ry → IsSide false s n rn
      → IsChosen cy ly ry a → IsChosen cn ln rn b → AreSides (IsTestedInThree c y n) s a b
  chosen_sides s c cy cn y ly ln n ry rn a b lawful root c_yes c_no y_yes y_no n_yes n_no passed failed = record {
    lawful = lawful;
    own = elim root [
      | inl first ↦ elim first [ inl is ↦ inl (root_tested s c is) | inr is ↦ inr (inl (root_tested s y is)) ]
      | inr is ↦ inr (inr (root_tested s n is))
    ];
    yes_diagram = passed.diagram;
    no_diagram = failed.diagram;
    yes_tested = λ r tested. elim (passed.choice.tests r tested) [
      | inl at ↦ (inl (c_yes.tested r at), side_later true s r c cy c_yes at, side_other s r c cy c_yes at)
      | inr other ↦ elim other [
        | inl at ↦ (inr (inl (y_yes.tested r at)), side_later true s r y ly y_yes at, side_other s r y ly y_yes at)
        | inr at ↦ (inr (inr (n_yes.tested r at)), side_later true s r n ry n_yes at, side_other s r n ry n_yes at)
      ]
    ];
    no_tested = λ r tested. elim (failed.choice.tests r tested) [
      | inl at ↦ (inl (c_no.tested r at), side_later false s r c cn c_no at)
      | inr other ↦ elim other [
        | inl at ↦ (inr (inl (y_no.tested r at)), side_later false s r y ln y_no at)
        | inr at ↦ (inr (inr (n_no.tested r at)), side_later false s r n rn n_no at)
      ]
    ];
  }

  -- and what is joined of them is chosen between the trees
  chosen_joined : (s : Test) (c cy cn : Tree Bool) (y ly ln n ry rn a b w : Tree L)
      → IsSide true s c cy → IsSide false s c cn → IsSide true s y ly → IsSide false s y ln → IsSide true s n ry → IsSide false s n rn
      → IsChosen cy ly ry a → IsChosen cn ln rn b → IsJoined (IsTestedInThree c y n) s a b w → IsChosen c y n w
  chosen_joined s c cy cn y ly ln n ry rn a b w c_yes c_no y_yes y_no n_yes n_no passed failed joined = record {
    diagram = joined.diagram;
    choice = record { gives = λ p. by p (passes s p) refl; tests = joined.tested };
  }
    where
      by : (p : Numbers) (answer : Bool) → passes s p ≡ answer → value w p ≡ (if value c p then value y p else value n p)
      by p true pass = joined.gives_yes p pass ∙ (passed.choice.gives p ∙ (λ i. if c_yes.gives p pass i then y_yes.gives p pass i else n_yes.gives p pass i))
      by p false fail = joined.gives_no p fail ∙ (failed.choice.gives p ∙ (λ i. if c_no.gives p fail i then y_no.gives p fail i else n_no.gives p fail i))

  module _ {cs : List (Tree Bool)} {k : ℕ} {ts : List (Tree L)} {i j : ℕ} {s : Test} {cy cn ly ln ry rn : ℕ}
      (st : IsChoiceStage cs k ts i j s cy cn ly ln ry rn) {p q : ℕ}
      (passed : IsChosenAt cs cy ts ly ry p) (failed : IsChosenAt cs cn ts ln rn q) where
    -- what is at the first place is chosen between the yes sides
    passed_there : (a : Tree L) → slice_get ts p ≡ Some a → IsChosen st.condition_sides.yes st.left_sides.yes st.right_sides.yes a
    passed_there a a_is = chosen_there passed st.condition_sides.yes_is st.left_sides.yes_is st.right_sides.yes_is a_is

    -- and at the second between the no sides
    failed_there : (b : Tree L) → slice_get ts q ≡ Some b → IsChosen st.condition_sides.no st.left_sides.no st.right_sides.no b
    failed_there b b_is = chosen_there failed st.condition_sides.no_is st.left_sides.no_is st.right_sides.no_is b_is

    -- so they are to be the sides of the first test
    sides_there : (a b : Tree L) → slice_get ts p ≡ Some a → slice_get ts q ≡ Some b → AreSides (IsTestedInThree st.condition st.left st.right) s a b
    sides_there a b a_is b_is =
        chosen_sides s st.condition st.condition_sides.yes st.condition_sides.no st.left st.left_sides.yes st.left_sides.no st.right
        st.right_sides.yes st.right_sides.no a b
        st.lawful st.root st.condition_sides.yes_side st.condition_sides.no_side st.left_sides.yes_side st.left_sides.no_side
        st.right_sides.yes_side st.right_sides.no_side
        (passed_there a a_is) (failed_there b b_is)

    -- and may be
    pub chosen_joinable : (a b : Tree L) → slice_get ts p ≡ Some a → slice_get ts q ≡ Some b → IsJoinable s a b
    chosen_joinable a b a_is b_is =
        joinable (IsTestedInThree st.condition st.left st.right) st.fit.numbers s a b st.fit.few
        (λ f v tested. elim tested [
          | inl at ↦ st.fit.within.0 f v at
          | inr other ↦ elim other [ inl at ↦ st.fit.within.1 f v at | inr at ↦ st.fit.within.2 f v at ]
        ]) (sides_there a b a_is b_is)

    -- the node with the two is chosen between the three
    pub chosen_node : (new : List (Tree L)) (id : ℕ) → Keeps ts new → JoinsAt ts s p q new id → IsChosenAt cs k new i j id
    chosen_node new id keeps joins =
        let a = passed.chosen in
        let b = failed.chosen in
        let w = joins a b passed.is failed.is in
        record {
          condition = st.condition;
          left = st.left;
          right = st.right;
          chosen = w.0;
          condition_is = st.condition_is;
          left_is = keeps i st.left st.left_is;
          right_is = keeps j st.right st.right_is;
          is = w.1;
          chooses = chosen_joined s st.condition st.condition_sides.yes st.condition_sides.no st.left st.left_sides.yes st.left_sides.no
              st.right st.right_sides.yes st.right_sides.no a b w.0
              st.condition_sides.yes_side st.condition_sides.no_side st.left_sides.yes_side st.left_sides.no_side st.right_sides.yes_side st.right_sides.no_side
              (passed_there a passed.is) (failed_there b failed.is)
              (joined_is (IsTestedInThree st.condition st.left st.right) s a b w.0 (chosen_joinable a b passed.is failed.is)
              (sides_there a b passed.is failed.is) w.2);
        }

  -- what is chosen in a store that has grown is the choice between the old trees
  pub chosen_choice : {cs : List (Tree Bool)} {k : ℕ} (old : List (Tree L)) {new : List (Tree L)} {i j id : ℕ} → Keeps old new
      → IsChosenAt cs k new i j id → ChoosesAt cs k old i j new id
  chosen_choice old {i = i} {j = j} keeps made c y n c_is y_is n_is =
      (made.chosen, made.is, (chosen_there made c_is (keeps i y y_is) (keeps j n n_is) made.is).choice)
