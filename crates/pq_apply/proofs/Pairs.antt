-- One step of a product: what two nodes split into is made one again.
use Rattle.std.proofs.Common.{◌≡◌, ◌⊎◌, ℕ, ◌+◌, ◌<◌, Bool, true, false, List, Option, Some, length, refl, sym, ◌∙◌, ap, subst, inl, inr}
use Rattle.std.specs.Prelude.{slice_get}
use Rattle.indexmap.specs.IndexMap.{IndexMap, Updates}
use Rattle.pq_fields.specs.Packet.{Numbers}
use Rattle.pq_store.specs.declared.test.Test.{Test}
use Rattle.pq_store.specs.declared.test.Test.TheVariants.{Equal}
use Rattle.pq_store.specs.Test.{IsLawful, passes}
use Rattle.pq_store.specs.Tree.{Tree, IsTested, value}
use Rattle.pq_store.specs.Tree.Tree.{Tip, Fork}
use Rattle.pq_store.specs.Store.{AreDiagrams, IsJoinable, JoinsAt, Keeps, ShowsBranch}
use Rattle.pq_lists.proofs.Places.{at_place, one_at}
use Rattle.pq_store.proofs.Joins.{leaf_diagram}
use Rattle.pq_apply.specs.Memo.{Remembers, same_pair}
use Rattle.pq_store.proofs.RoomLemmas.{room_for}
use Rattle.pq_apply.specs.Product.{FitTogether, FitTogetherAt, IsProduct}
use Rattle.pq_apply.specs.Pairing.{IsFirstAt, IsPaired, IsPairedAt}
use Rattle.pq_apply.specs.Split.{HasRootAt, IsEarlier, LeadsRoot, SplitsAt, root_of}
use Rattle.pq_apply.proofs.Places.{earlier_lawful, lawful_at, together, SidesAt, no_small, sides_at, size_at, yes_small}
use Rattle.pq_apply.proofs.Remembered.{pair_exact, remembers_more, remembers_still}
use Rattle.pq_apply.proofs.Splits.{AreSides, IsJoined, IsRoot, IsSide, joinable, joined_is, root_tested, side_later, side_other}

module _ {A B : Type 0} where
  -- the first of a node's test and a root is the first of both roots
  pub first_of_node : (ls : List (Tree A)) (x : ℕ) (rs : List (Tree B)) (y : ℕ) (r : Test) (i j : ℕ) (other : Option Test) (s : Test)
      → AreDiagrams ls → AreDiagrams rs → ShowsBranch ls x r i j → y < length rs → HasRootAt rs y other → IsEarlier r other s → IsFirstAt ls x rs y s
  first_of_node ls x rs y r i j other s left_diagrams right_diagrams shows within has earlier =
      let u = at_place rs y within in
      let other_is : root_of u.0 ≡ other = has u.0 u.1 in
      record {
        left = Fork r shows.yes_tree shows.no_tree;
        right = u.0;
        left_is = shows.is;
        right_is = u.1;
        lawful = earlier_lawful r other s (left_diagrams x (Fork r shows.yes_tree shows.no_tree) shows.is).lawful.0
            (lawful_at rs y other right_diagrams within has) earlier;
        leads_left = earlier.leads_first;
        leads_right = subst (LeadsRoot s) (sym other_is) earlier.leads_other;
        root = root u.0 other_is earlier.is;
      }
    where
      root : (u : Tree B) → root_of u ≡ other → (s ≡ r) ⊎ (Some s ≡ other) → (Some r ≡ Some s) ⊎ (root_of u ≡ Some s)
      root u u_is (inl is) = inl (ap Some (sym is))
      root u u_is (inr is) = inr (u_is ∙ sym is)

  -- beside a leaf the test of a node is the first
  pub first_by_leaf : (ls : List (Tree A)) (x : ℕ) (rs : List (Tree B)) (y : ℕ) (a : A) (s : Test) (i j : ℕ)
      → AreDiagrams rs → slice_get ls x ≡ Some (Tip a) → ShowsBranch rs y s i j → IsFirstAt ls x rs y s
  first_by_leaf ls x rs y a s i j diagrams leaf shows = record {
    left = Tip a;
    right = Fork s shows.yes_tree shows.no_tree;
    left_is = leaf;
    right_is = shows.is;
    lawful = (diagrams y (Fork s shows.yes_tree shows.no_tree) shows.is).lawful.0;
    leads_left = tt;
    leads_right = inl refl;
    root = inr refl;
  }

  -- two nodes that are split by the first of their tests
  pub record IsStage (ls : List (Tree A)) (x : ℕ) (rs : List (Tree B)) (y : ℕ) (s : Test) (xy xn yy yn : ℕ) : Type 0 where
    pub first : IsFirstAt ls x rs y s
    pub left : SidesAt ls s first.left xy xn
    pub right : SidesAt rs s first.right yy yn

  -- as they are by splits
  pub stage : (ls : List (Tree A)) (x : ℕ) (rs : List (Tree B)) (y : ℕ) (s : Test) (xy xn yy yn : ℕ)
      → AreDiagrams ls → AreDiagrams rs → IsFirstAt ls x rs y s → SplitsAt ls s x xy xn → SplitsAt rs s y yy yn → IsStage ls x rs y s xy xn yy yn
  stage ls x rs y s xy xn yy yn left_diagrams right_diagrams first left right = record {
    first = first;
    left = sides_at ls s first.left x xy xn first.lawful left_diagrams first.left_is left;
    right = sides_at rs s first.right y yy yn first.lawful right_diagrams first.right_is right;
  }

  -- parts of two trees may come together where the trees may
  parts_fit : (t v : Tree A) (u w : Tree B) → ((s : Test) → IsTested s v → IsTested s t) → ((s : Test) → IsTested s w → IsTested s u)
      → FitTogether t u → FitTogether v w
  parts_fit t v u w in_left in_right =
      room_for (λ ns within. (
        λ f v tested. within.0 f v (in_left (Equal f v) tested),
        λ f v tested. within.1 f v (in_right (Equal f v) tested),
      ))

  -- trees that may come together may do so at their places
  pub fit_there : (ls : List (Tree A)) (x : ℕ) (rs : List (Tree B)) (y : ℕ) (t : Tree A) (u : Tree B) → slice_get ls x ≡ Some t
      → slice_get rs y ≡ Some u → FitTogether t u → FitTogetherAt ls x rs y
  fit_there ls x rs y t u t_is u_is fit v w v_is w_is =
      subst (FitTogether v) (one_at rs y u w u_is w_is) (subst (λ r. FitTogether r u) (one_at ls x t v t_is v_is) fit)

  module _ {ls : List (Tree A)} {x : ℕ} {rs : List (Tree B)} {y : ℕ} {s : Test} {xy xn yy yn : ℕ} (st : IsStage ls x rs y s xy xn yy yn) where
    -- the yes sides together are smaller
    pub yes_falls : size_at ls xy + size_at rs yy < size_at ls x + size_at rs y
    yes_falls = (together (yes_small x st.first.left_is st.left) (yes_small y st.first.right_is st.right)).smaller st.first.root

    -- and so are the no sides
    pub no_falls : size_at ls xn + size_at rs yn < size_at ls x + size_at rs y
    no_falls = (together (no_small x st.first.left_is st.left) (no_small y st.first.right_is st.right)).smaller st.first.root

    -- what the yes sides test may come together
    pub yes_fit : FitTogetherAt ls x rs y → FitTogetherAt ls xy rs yy
    yes_fit fit =
        fit_there ls xy rs yy st.left.yes st.right.yes st.left.yes_is st.right.yes_is
        (parts_fit st.first.left st.left.yes st.first.right st.right.yes st.left.yes_side.tested st.right.yes_side.tested
        (fit st.first.left st.first.right st.first.left_is st.first.right_is))

    -- and so may what the no sides test
    pub no_fit : FitTogetherAt ls x rs y → FitTogetherAt ls xn rs yn
    no_fit fit =
        fit_there ls xn rs yn st.left.no st.right.no st.left.no_is st.right.no_is
        (parts_fit st.first.left st.left.no st.first.right st.right.no st.left.no_side.tested st.right.no_side.tested
        (fit st.first.left st.first.right st.first.left_is st.first.right_is))

-- one of two trees tests it
abbrev pub IsTestedIn : {A B : Type 0} → Tree A → Tree B → Test → Type 0
IsTestedIn t u s = IsTested s t ⊎ IsTested s u

module _ {A B C : Type 0} (R : A → B → C → Type 0) where
  -- what is made of the trees at two places is made of whichever trees are there
  pub paired_there : {ls : List (Tree A)} {x : ℕ} {rs : List (Tree B)} {y : ℕ} {us : List (Tree C)} {k : ℕ} {t : Tree A} {u : Tree B} {w : Tree C}
      → IsPairedAt R ls x rs y us k → slice_get ls x ≡ Some t → slice_get rs y ≡ Some u → slice_get us k ≡ Some w → IsPaired R t u w
  paired_there {ls} {x} {rs} {y} {us} {k} {t} {u} {w} made t_is u_is w_is =
      subst (IsPaired R t u) (one_at us k made.paired w made.is w_is)
      (subst (λ v. IsPaired R t v made.paired) (one_at rs y made.right u made.right_is u_is)
      (subst (λ v. IsPaired R v made.right made.paired) (one_at ls x made.left t made.left_is t_is) made.pairs))

  -- what is made of two leaves
  pub paired_leaves : {ls : List (Tree A)} {x : ℕ} {rs : List (Tree B)} {y : ℕ} {us : List (Tree C)} {k : ℕ} {a : A} {b : B} {c : C}
      → slice_get ls x ≡ Some (Tip a) → slice_get rs y ≡ Some (Tip b) → slice_get us k ≡ Some (Tip c) → R a b c → IsPairedAt R ls x rs y us k
  paired_leaves {a = a} {b = b} {c = c} a_is b_is c_is made = record {
    left = Tip a;
    right = Tip b;
    paired = Tip c;
    left_is = a_is;
    right_is = b_is;
    is = c_is;
    pairs = record { diagram = leaf_diagram c; gives = λ p. made; tests = λ s tested. absurd tested };
  }

  -- it stays while the store grows
  pub paired_still : {ls : List (Tree A)} {x : ℕ} {rs : List (Tree B)} {y : ℕ} {us vs : List (Tree C)} {k : ℕ} → Keeps us vs
      → IsPairedAt R ls x rs y us k → IsPairedAt R ls x rs y vs k
  paired_still {k = k} keeps made = record {
    left = made.left;
    right = made.right;
    paired = made.paired;
    left_is = made.left_is;
    right_is = made.right_is;
    is = keeps k made.paired made.is;
    pairs = made.pairs;
  }

  -- a table remembers one more product, while the store grows
  pub remembers_pair : {S : Type 0} {ls : List (Tree A)} {x : ℕ} {rs : List (Tree B)} {y : ℕ} {us vs : List (Tree C)} {k : ℕ} (done new : IndexMap (ℕ × ℕ) ℕ S)
      → Keeps us vs → Remembers same_pair (λ key id. IsPairedAt R ls key.0 rs key.1 us id) done → IsPairedAt R ls x rs y vs k
      → Updates same_pair done new (x, y) (Some k)
      → Remembers same_pair (λ key id. IsPairedAt R ls key.0 rs key.1 vs id) new
  remembers_pair {ls = ls} {x = x} {rs = rs} {y = y} {us = us} {vs = vs} {k = k} done new keeps remembers made updates =
      remembers_more same_pair (λ key id. IsPairedAt R ls key.0 rs key.1 vs id) done new (x, y) k pair_exact
      (remembers_still same_pair (λ key id. IsPairedAt R ls key.0 rs key.1 us id) (λ key id. IsPairedAt R ls key.0 rs key.1 vs id) done
      (λ key id. paired_still keeps) remembers) made updates

  -- what is made of the sides of two trees may be the sides of the first test
  pub paired_sides : (s : Test) (t ty tn : Tree A) (u uy un : Tree B) (a b : Tree C) → IsLawful s → IsRoot s t ⊎ IsRoot s u
      → IsSide true s t ty → IsSide false s t tn → IsSide true s u uy → IsSide false s u un → IsPaired R ty uy a → IsPaired R tn un b
      → AreSides (IsTestedIn t u) s a b
  paired_sides s t ty tn u uy un a b lawful root t_yes t_no u_yes u_no yes_made no_made = record {
    lawful = lawful;
    own = elim root [ inl is ↦ inl (root_tested s t is) | inr is ↦ inr (root_tested s u is) ];
    yes_diagram = yes_made.diagram;
    no_diagram = no_made.diagram;
    yes_tested = λ r tested. elim (yes_made.tests r tested) [
      | inl in_t ↦ (inl (t_yes.tested r in_t), side_later true s r t ty t_yes in_t, side_other s r t ty t_yes in_t)
      | inr in_u ↦ (inr (u_yes.tested r in_u), side_later true s r u uy u_yes in_u, side_other s r u uy u_yes in_u)
    ];
    no_tested = λ r tested. elim (no_made.tests r tested) [
      | inl in_t ↦ (inl (t_no.tested r in_t), side_later false s r t tn t_no in_t)
      | inr in_u ↦ (inr (u_no.tested r in_u), side_later false s r u un u_no in_u)
    ];
  }

  -- and what is joined of them is made of the two trees
  pub paired_joined : (s : Test) (t ty tn : Tree A) (u uy un : Tree B) (a b w : Tree C)
      → IsSide true s t ty → IsSide false s t tn → IsSide true s u uy → IsSide false s u un → IsPaired R ty uy a → IsPaired R tn un b
      → IsJoined (IsTestedIn t u) s a b w → IsPaired R t u w
  paired_joined s t ty tn u uy un a b w t_yes t_no u_yes u_no yes_made no_made joined = record {
    diagram = joined.diagram;
    gives = λ p. by p (passes s p) refl;
    tests = joined.tested;
  }
    where
      by : (p : Numbers) (answer : Bool) → passes s p ≡ answer → R (value t p) (value u p) (value w p)
      by p true pass = subst (R (value t p) (value u p)) (sym (joined.gives_yes p pass))
          (subst (λ l. R (value t p) l (value a p)) (u_yes.gives p pass) (subst (λ l. R l (value uy p) (value a p)) (t_yes.gives p pass) (yes_made.gives p)))
      by p false fail = subst (R (value t p) (value u p)) (sym (joined.gives_no p fail))
          (subst (λ l. R (value t p) l (value b p)) (u_no.gives p fail) (subst (λ l. R l (value un p) (value b p)) (t_no.gives p fail) (no_made.gives p)))

  module _ {ls : List (Tree A)} {x : ℕ} {rs : List (Tree B)} {y : ℕ} {s : Test} {xy xn yy yn : ℕ}
      (st : IsStage ls x rs y s xy xn yy yn) {us : List (Tree C)} {i j : ℕ}
      (fit : FitTogetherAt ls x rs y) (yes_made : IsPairedAt R ls xy rs yy us i) (no_made : IsPairedAt R ls xn rs yn us j) where
    -- the same of the trees at their places
    sides_there : (a b : Tree C) → slice_get us i ≡ Some a → slice_get us j ≡ Some b → AreSides (IsTestedIn st.first.left st.first.right) s a b
    sides_there a b a_is b_is =
        paired_sides s st.first.left st.left.yes st.left.no st.first.right st.right.yes st.right.no a b st.first.lawful st.first.root
        st.left.yes_side st.left.no_side st.right.yes_side st.right.no_side
        (paired_there yes_made st.left.yes_is st.right.yes_is a_is)
        (paired_there no_made st.left.no_is st.right.no_is b_is)

    -- so they may be the sides of the first test
    pub paired_joinable : (a b : Tree C) → slice_get us i ≡ Some a → slice_get us j ≡ Some b → IsJoinable s a b
    paired_joinable a b a_is b_is =
        let whole = fit st.first.left st.first.right st.first.left_is st.first.right_is in
        joinable (IsTestedIn st.first.left st.first.right) whole.numbers s a b whole.few
        (λ f v tested. elim tested [ inl in_left ↦ whole.within.0 f v in_left | inr in_right ↦ whole.within.1 f v in_right ]) (sides_there a b a_is b_is)

    -- and the node with them is made of the two trees
    pub paired_node : (new : List (Tree C)) (k : ℕ) → JoinsAt us s i j new k → IsPairedAt R ls x rs y new k
    paired_node new k joins =
        let a = yes_made.paired in
        let b = no_made.paired in
        let w = joins a b yes_made.is no_made.is in
        record {
          left = st.first.left;
          right = st.first.right;
          paired = w.0;
          left_is = st.first.left_is;
          right_is = st.first.right_is;
          is = w.1;
          pairs = paired_joined s st.first.left st.left.yes st.left.no st.first.right st.right.yes st.right.no a b w.0
              st.left.yes_side st.left.no_side st.right.yes_side st.right.no_side
              (paired_there yes_made st.left.yes_is st.right.yes_is yes_made.is)
              (paired_there no_made st.left.no_is st.right.no_is no_made.is)
              (joined_is (IsTestedIn st.first.left st.first.right) s a b w.0 (paired_joinable a b yes_made.is no_made.is)
              (sides_there a b yes_made.is no_made.is) w.2);
        }

  -- what is made of two trees is their product
  pub paired_product : {ls : List (Tree A)} {x : ℕ} {rs : List (Tree B)} {y : ℕ} {us : List (Tree C)} {k : ℕ} → IsPairedAt R ls x rs y us k
      → IsProduct R ls x rs y us k
  paired_product made = record {
    product = made.paired;
    is = made.is;
    gives = λ t u t_is u_is. (paired_there made t_is u_is made.is).gives;
    tests = λ t u t_is u_is. (paired_there made t_is u_is made.is).tests;
  }
