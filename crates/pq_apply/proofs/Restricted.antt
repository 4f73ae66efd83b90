-- Diagrams with one field's number set, step by step.
use Rattle.std.proofs.Common.{ℕ, ◌<◌, ◌≤◌, ◌≡◌, ◌∙◌, Bool, true, false, List, Option, Some, refl, sym, ap, subst, inl, inr, arith}
use Rattle.std.specs.Prelude.{slice_get, ◌==◌, if◌then◌else◌}
use Rattle.std.proofs.lemmas.Bool.{eqb-true}
use Rattle.indexmap.specs.IndexMap.{IndexMap, Updates}
use Rattle.std.proofs.Math.Nat.{le-max_left, le-max_right}
use Rattle.pq_fields.specs.declared.field.Field.{Field}
use Rattle.pq_fields.specs.Packet.{Numbers, with_number, rank}
use Rattle.pq_store.specs.declared.test.Test.{Test}
use Rattle.pq_store.specs.declared.test.Test.TheVariants.{Equal, Bit}
use Rattle.pq_store.specs.Test.{field_of, passes, Precedes}
use Rattle.pq_store.specs.Tree.{Tree, value, IsTested}
use Rattle.pq_store.specs.Tree.Tree.{Tip, Fork}
use Rattle.pq_store.specs.Diagram.{IsBefore, Ascends, Skips, SkipsBelow, most, IsDiagram}
use Rattle.pq_store.specs.Store.{Keeps, AreDiagrams, IsJoinable, IsJoin, JoinsAt, value_at}
use Rattle.pq_store.proofs.Order.{before_tested}
use Rattle.pq_store.proofs.Joins.{value_there}
use Rattle.pq_apply.specs.Restriction.{IsRestriction, RestrictsAt}
use Rattle.pq_apply.specs.Restricting.{decides, IsLater, StepsAt, IsRestrictedAt}
use Rattle.pq_apply.specs.declared.restriction.Step.TheVariants.{Keep, Side, Both}
use Rattle.pq_apply.specs.Memo.{Remembers}
use Rattle.pq_apply.proofs.Remembered.{remembers_still, remembers_more}
use Rattle.pq_apply.proofs.SetNumbers.{passes_set, passes_kept, later_same}

-- a test of the field isn't after one of a later field
not_before : (f : Field) (r s : Test) → rank f < rank (field_of r) → Precedes r s → field_of s ≡ f → ⊥
not_before f r s later (inl less) is = let d : rank (field_of s) ≡ rank f = ap rank is in omega arith
not_before f r s later (inr less) is = let d : rank (field_of s) ≡ rank f = ap rank is in omega arith

module _ {L : Type 0} where
  -- what is before a diagram is before a tree of its tests
  still_before : (s : Test) (t u : Tree L) → ((r : Test) → IsTested r u → IsTested r t) → IsBefore s t → Ascends t → IsBefore s u
  still_before s t (Tip l) tests before ascends = tt
  still_before s t (Fork r y n) tests before ascends = before_tested s r t before ascends (tests r (inl refl))

  -- a tree that skips a field tests none of its numbers
  none_tested : (f g : Field) (v : ℕ) (t : Tree L) → Skips f t → IsTested (Equal g v) t → rank f ≡ rank g → ⊥
  none_tested f g v (Tip l) skips tested same = tested
  none_tested f g v (Fork (Equal h w) y n) skips (inl is) same = skips.0 (same ∙ ap (λ s. rank (field_of s)) is)
  none_tested f g v (Fork (Equal h w) y n) skips (inr (inl in_yes)) same = none_tested f g v y skips.1 in_yes same
  none_tested f g v (Fork (Equal h w) y n) skips (inr (inr in_no)) same = none_tested f g v n skips.2 in_no same
  none_tested f g v (Fork (Bit h i) y n) skips (inl is) same = absurd cc
  none_tested f g v (Fork (Bit h i) y n) skips (inr (inl in_yes)) same = none_tested f g v y skips.0 in_yes same
  none_tested f g v (Fork (Bit h i) y n) skips (inr (inr in_no)) same = none_tested f g v n skips.1 in_no same

  -- and a tree that tests none skips it
  skips_all : (f : Field) (t : Tree L) → ((g : Field) (v : ℕ) → IsTested (Equal g v) t → rank f ≡ rank g → ⊥) → Skips f t
  skips_all f (Tip l) none = tt
  skips_all f (Fork (Equal g v) y n) none =
      (none g v (inl refl), skips_all f y (λ h w tested. none h w (inr (inl tested))), skips_all f n (λ h w tested. none h w (inr (inr tested))))
  skips_all f (Fork (Bit g i) y n) none =
      (skips_all f y (λ h w tested. none h w (inr (inl tested))), skips_all f n (λ h w tested. none h w (inr (inr tested))))

  -- so a tree of a diagram's tests skips what that skips
  still_skips : (s : Test) (t u : Tree L) → ((r : Test) → IsTested r u → IsTested r t) → SkipsBelow s t → SkipsBelow s u
  still_skips (Equal f w) t u tests skips = skips_all f u (λ g v tested. none_tested f g v t skips (tests (Equal g v) tested))
  still_skips (Bit f i) t u tests skips = tt

  -- a diagram of later fields doesn't test the field
  later_untested : (f : Field) (s : Test) (t : Tree L) → IsLater f t → Ascends t → IsTested s t → field_of s ≡ f → ⊥
  later_untested f s (Tip l) later ascends tested is = tested
  later_untested f s (Fork r y n) later ascends (inl same) is =
      let e : rank (field_of s) ≡ rank (field_of r) = ap (λ q. rank (field_of q)) same in
      let d : rank (field_of s) ≡ rank f = ap rank is in
      omega arith
  later_untested f s (Fork r y n) later ascends (inr (inl in_yes)) is = not_before f r s later (before_tested r s y ascends.0 ascends.2 in_yes) is
  later_untested f s (Fork r y n) later ascends (inr (inr in_no)) is = not_before f r s later (before_tested r s n ascends.1 ascends.3 in_no) is

  -- a diagram of later fields is its own restriction
  pub keep_restricted : (f : Field) (v : ℕ) (ts : List (Tree L)) (k : ℕ) → AreDiagrams ts → StepsAt f v ts k Keep → IsRestrictedAt f v ts k k
  keep_restricted f v ts k diagrams step = record {
    tree = step.0;
    restricted = step.0;
    tree_is = step.1;
    restricted_is = step.1;
    restricts = let ascends = (diagrams k step.0 step.1).ascends in record {
      gives = λ x. sym (later_same f v x step.0 step.2 ascends);
      tests = λ s tested. tested;
      untested = λ s tested. later_untested f s step.0 step.2 ascends tested;
    };
    few = λ g. omega arith;
  }

  -- one side says of the packets with the number what a test of the field says
  side_says : (f : Field) (v : ℕ) (s : Test) (y n u r : Tree L) → rank (field_of s) ≡ rank f → u ≡ (if decides s v then y else n)
      → ((x : Numbers) → value r x ≡ value u (with_number f v x)) → (x : Numbers) → value r x ≡ value (Fork s y n) (with_number f v x)
  side_says f v s y n u r same is gives x =
      gives x ∙ (ap (λ t. value t (with_number f v x)) is ∙ (by (decides s v)
      ∙ ap (λ b. if b then value y (with_number f v x) else value n (with_number f v x)) (sym (passes_set s f v x same))))
    where
      by : (b : Bool) → value (if b then y else n) (with_number f v x) ≡ (if b then value y (with_number f v x) else value n (with_number f v x))
      by true = refl
      by false = refl

  -- what a side tests the fork tests, and it tests no more numbers on a path
  pub side_part : (b : Bool) (s : Test) (y n u : Tree L) → u ≡ (if b then y else n)
      → ((r : Test) → IsTested r u → IsTested r (Fork s y n)) × ((g : Field) → most g u ≤ most g (Fork s y n))
  side_part true s y n u is = (
    (λ r tested. inr (inl (subst (IsTested r) is tested))),
    λ g. let e = ap (most g) is in
        omega (arith, le-max_left (most g y) (most g n)),
  )
  side_part false s y n u is = (
    (λ r tested. inr (inr (subst (IsTested r) is tested))),
    λ g. let e = ap (most g) is in
        omega (arith, le-max_right (most g y) (most g n)),
  )

  -- the tree at the place of a side
  pub side_at : (b : Bool) (ts : List (Tree L)) (i j next : ℕ) (y n u : Tree L) → slice_get ts i ≡ Some y → slice_get ts j ≡ Some n
      → next ≡ (if b then i else j) → slice_get ts next ≡ Some u → u ≡ (if b then y else n)
  side_at true ts i j next y n u y_is n_is is at = let e = ap (slice_get ts) is in cc
  side_at false ts i j next y n u y_is n_is is at = let e = ap (slice_get ts) is in cc

  -- where a test of the field is the root, the restriction of the side is that of the whole
  pub side_restricted : (f : Field) (v : ℕ) (old new : List (Tree L)) (k next id : ℕ) → Keeps old new → StepsAt f v old k (Side next)
      → IsRestrictedAt f v new next id → IsRestrictedAt f v new k id
  side_restricted f v old new k next id keeps step done =
      let s = step.0 in
      let shows = step.3 in
      let y = shows.yes_tree in
      let n = shows.no_tree in
      let restricts = done.restricts in
      let is : done.tree ≡ (if decides s v then y else n) =
      side_at (decides s v) new step.1 step.2 next y n done.tree (keeps step.1 y shows.yes_is) (keeps step.2 n shows.no_is) step.5 done.tree_is in
      let part = side_part (decides s v) s y n done.tree is in
      record {
        tree = Fork s y n;
        restricted = done.restricted;
        tree_is = keeps k (Fork s y n) shows.is;
        restricted_is = done.restricted_is;
        restricts = record {
          gives = side_says f v s y n done.tree done.restricted step.4 is restricts.gives;
          tests = λ r tested. part.0 r (restricts.tests r tested);
          untested = restricts.untested;
        };
        few = λ g. let one = done.few g in let two = part.1 g in omega arith;
      }

  -- a side lies below its node
  pub side_below : (f : Field) (v : ℕ) (ts : List (Tree L)) (k next : ℕ) → StepsAt f v ts k (Side next) → next < k
  side_below f v ts k next step = let shows = step.3 in by (decides step.0 v) step.5 shows.yes_below shows.no_below
    where
      by : (b : Bool) {i j : ℕ} → next ≡ (if b then i else j) → i < k → j < k → next < k
      by true is yes_below no_below = omega arith
      by false is yes_below no_below = omega arith

  -- a restriction stays one
  pub restricted_still : (f : Field) (v : ℕ) (old new : List (Tree L)) (k id : ℕ) → Keeps old new → IsRestrictedAt f v old k id → IsRestrictedAt f v new k id
  restricted_still f v old new k id keeps h = record {
    tree = h.tree;
    restricted = h.restricted;
    tree_is = keeps k h.tree h.tree_is;
    restricted_is = keeps id h.restricted h.restricted_is;
    restricts = h.restricts;
    few = h.few;
  }

  -- the restriction at a place is that of the tree there
  pub restricted_tree : (f : Field) (v : ℕ) (old new : List (Tree L)) (k id : ℕ) → Keeps old new → IsRestrictedAt f v new k id → RestrictsAt f v old k new id
  restricted_tree f v old new k id keeps h t t_is =
      let there : slice_get new k ≡ Some t = keeps k t t_is in
      let h_is = h.tree_is in
      let e : h.tree ≡ t = cc in
      (h.restricted, h.restricted_is, subst (λ u. IsRestriction f v u h.restricted) e h.restricts)

  -- restrictions of the sides of an earlier test, in a store that has grown
  pub record AreSidesRestricted (f : Field) (v : ℕ) (s : Test) (y n a b : Tree L) : Type 0 where
    pub earlier : rank (field_of s) < rank f
    pub diagram : IsDiagram (Fork s y n)
    pub left : IsRestriction f v y a
    pub right : IsRestriction f v n b
    pub left_few : (g : Field) → most g a ≤ most g y
    pub right_few : (g : Field) → most g b ≤ most g n

  -- the trees at places are such
  pub sides_restricted : (f : Field) (v : ℕ) (old mid : List (Tree L)) (k i j a b : ℕ) (s : Test) (u w : Tree L) → AreDiagrams old
      → Keeps old mid → (step : StepsAt f v old k (Both s i j))
      → IsRestrictedAt f v mid i a → IsRestrictedAt f v mid j b → slice_get mid a ≡ Some u → slice_get mid b ≡ Some w
      → AreSidesRestricted f v s step.0.yes_tree step.0.no_tree u w
  sides_restricted f v old mid k i j a b s u w diagrams keeps step left right u_is w_is =
      let shows = step.0 in
      let y = shows.yes_tree in
      let n = shows.no_tree in
      let y_is : slice_get mid i ≡ Some y = keeps i y shows.yes_is in
      let n_is : slice_get mid j ≡ Some n = keeps j n shows.no_is in
      let left_tree = left.tree_is in
      let right_tree = right.tree_is in
      let left_is = left.restricted_is in
      let right_is = right.restricted_is in
      let y_same : left.tree ≡ y = cc in
      let n_same : right.tree ≡ n = cc in
      let u_same : left.restricted ≡ u = cc in
      let w_same : right.restricted ≡ w = cc in
      record {
        earlier = step.1;
        diagram = diagrams k (Fork s y n) shows.is;
        left = subst (λ t. IsRestriction f v t u) y_same (subst (IsRestriction f v left.tree) u_same left.restricts);
        right = subst (λ t. IsRestriction f v t w) n_same (subst (IsRestriction f v right.tree) w_same right.restricts);
        left_few = λ g. let few = left.few g in let e = ap (most g) y_same in let d = ap (most g) u_same in omega arith;
        right_few = λ g. let few = right.few g in let e = ap (most g) n_same in let d = ap (most g) w_same in omega arith;
      }

  -- they may be joined
  pub sides_joinable : (f : Field) (v : ℕ) (s : Test) (y n a b : Tree L) → AreSidesRestricted f v s y n a b → IsJoinable s a b
  sides_joinable f v s y n a b sides =
      let d = sides.diagram in
      let left = sides.left in
      let right = sides.right in
      record {
        lawful = d.lawful.0;
        before_yes = still_before s y a left.tests d.ascends.0 d.ascends.2;
        before_no = still_before s n b right.tests d.ascends.1 d.ascends.3;
        once = still_skips s y a left.tests d.asks_once.0;
        fits = λ g. let x = sides.left_few g in let z = sides.right_few g in omega (arith, d.fits g);
      }

  -- what is joined of them is the restriction of the whole
  pub sides_join_restricted : (f : Field) (v : ℕ) (s : Test) (y n a b r : Tree L) → AreSidesRestricted f v s y n a b → IsJoin s a b r
      → ((x : Numbers) → value r x ≡ (if passes s x then value a x else value b x))
      → IsRestriction f v (Fork s y n) r × ((g : Field) → most g r ≤ most g (Fork s y n))
  sides_join_restricted f v s y n a b r sides join says = (record { gives = gives; tests = tests join; untested = untested join }, few join)
    where
      gives : (x : Numbers) → value r x ≡ value (Fork s y n) (with_number f v x)
      gives x =
          let left = sides.left in
          let right = sides.right in
          let earlier = sides.earlier in
          let test = passes_kept s f v x (λ e. omega arith) in
          says x ∙ ((λ k. if passes s x then left.gives x k else right.gives x k)
          ∙ ap (λ c. if c then value y (with_number f v x) else value n (with_number f v x)) (sym test))

      tests : IsJoin s a b r → (q : Test) → IsTested q r → IsTested q (Fork s y n)
      tests (inl same) q tested = let right = sides.right in inr (inr (right.tests q (subst (IsTested q) same.1 tested)))
      tests (inr fork) q tested = let left = sides.left in let right = sides.right in elim (subst (IsTested q) fork.1 tested) [
        | inl here ↦ inl here
        | inr below ↦ elim below [ inl in_yes ↦ inr (inl (left.tests q in_yes)) | inr in_no ↦ inr (inr (right.tests q in_no)) ]
      ]

      untested : IsJoin s a b r → (q : Test) → IsTested q r → field_of q ≡ f → ⊥
      untested (inl same) q tested is = let right = sides.right in right.untested q (subst (IsTested q) same.1 tested) is
      untested (inr fork) q tested is = let left = sides.left in let right = sides.right in elim (subst (IsTested q) fork.1 tested) [
        | inl here ↦
            let earlier = sides.earlier in
            let e : rank (field_of q) ≡ rank (field_of s) = ap (λ r. rank (field_of r)) here in
            let d : rank (field_of q) ≡ rank f = ap rank is in
            omega arith
        | inr below ↦ elim below [ inl in_yes ↦ left.untested q in_yes is | inr in_no ↦ right.untested q in_no is ]
      ]

      few : IsJoin s a b r → (g : Field) → most g r ≤ most g (Fork s y n)
      few (inl same) g = let e = ap (most g) same.1 in let z = sides.right_few g in omega (arith, le-max_right (most g y) (most g n))
      few (inr fork) g = let e = ap (most g) fork.1 in let x = sides.left_few g in let z = sides.right_few g in omega arith

  -- what a choice between values gives
  chosen_value : (b : Bool) (o p q : Option L) (r u w : L) → o ≡ Some r → p ≡ Some u → q ≡ Some w → o ≡ (if b then p else q) → r ≡ (if b then u else w)
  chosen_value true o p q r u w o_is p_is q_is same = cc
  chosen_value false o p q r u w o_is p_is q_is same = cc

  -- the node over restrictions of the sides has the restriction of the whole
  pub both_restricted : (f : Field) (v : ℕ) (old mid new : List (Tree L)) (k i j a b id : ℕ) (s : Test) → AreDiagrams old → Keeps old mid
      → StepsAt f v old k (Both s i j)
      → IsRestrictedAt f v mid i a → IsRestrictedAt f v mid j b → JoinsAt mid s a b new id
      → ((x : Numbers) → value_at new id x ≡ (if passes s x then value_at mid a x else value_at mid b x)) → Keeps mid new → IsRestrictedAt f v new k id
  both_restricted f v old mid new k i j a b id s diagrams keeps step left right joins says grows =
      let u = left.restricted in
      let w = right.restricted in
      let shows = step.0 in
      let whole = Fork s shows.yes_tree shows.no_tree in
      let r = joins u w left.restricted_is right.restricted_is in
      let sides = sides_restricted f v old mid k i j a b s u w diagrams keeps step left right left.restricted_is right.restricted_is in
      let made = sides_join_restricted f v s shows.yes_tree shows.no_tree u w r.0 sides r.2 (λ x.
      chosen_value (passes s x) (value_at new id x) (value_at mid a x) (value_at mid b x) (value r.0 x) (value u x) (value w x)
      (value_there new id r.0 x r.1) (value_there mid a u x left.restricted_is) (value_there mid b w x right.restricted_is) (says x)) in
      record {
        tree = whole;
        restricted = r.0;
        tree_is = grows k whole (keeps k whole shows.is);
        restricted_is = r.1;
        restricts = made.0;
        few = made.1;
      }

  -- what is remembered of restrictions stays true, and one more is remembered
  pub remembers_restricted : {S : Type 0} (f : Field) (v : ℕ) (mid new : List (Tree L)) (k id : ℕ) (old_done new_done : IndexMap ℕ ℕ S) → Keeps mid new
      → Remembers (λ x y. x == y) (λ key i. IsRestrictedAt f v mid key i) old_done → IsRestrictedAt f v new k id
      → Updates (λ x y. x == y) old_done new_done k (Some id)
      → Remembers (λ x y. x == y) (λ key i. IsRestrictedAt f v new key i) new_done
  remembers_restricted f v mid new k id old_done new_done keeps remembers made updates =
      remembers_more (λ x y. x == y) (λ key i. IsRestrictedAt f v new key i) old_done new_done k id (λ x y same. eqb-true x y same)
      (remembers_still (λ x y. x == y) (λ key i. IsRestrictedAt f v mid key i) (λ key i. IsRestrictedAt f v new key i) old_done
      (λ key i h. restricted_still f v mid new key i keeps h) remembers) made updates
