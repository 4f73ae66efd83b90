-- Diagrams of policies, from those of the first of them and of those after these.
use Rattle.std.proofs.Common.{ℕ, ◌≡◌, ◌<◌, Bool, true, false, List, ◌++◌, map, take, drop, length, inl, inr, sym, subst}
use Rattle.std.specs.Prelude.{◌⊎◌}
use Rattle.std.proofs.lemmas.Bool.{true≢false}
use Rattle.pq_fields.specs.Packet.{Numbers, Fit}
use Rattle.pq_fields.specs.Writes.{Written, AllFit}
use Rattle.pq_model.specs.Topology.{Topology}
use Rattle.pq_policy.specs.declared.policy.Policy.{Policy}
use Rattle.pq_policy.specs.Policy.{AnyOne, Chained, Joint, Policies, PolicyTree, Yields, policies, policy_tree, policy_trees}
use Rattle.pq_store.specs.Tree.{Tree}
use Rattle.pq_store.specs.Store.{HasAt, Keeps}
use Rattle.pq_store.proofs.RoomLemmas.{room_for}
use Rattle.pq_apply.specs.Product.{FitTogetherAt}
use Rattle.pq_rewrite.specs.Calls.{FitInSequenceAt, IsIdleFreeAt, IsSequence, IsUnion, SequencesAt, UnitesAt}
use Rattle.pq_rewrite.specs.Rewriting.{Gives, IsGiving}
use Rattle.pq_rewrite.proofs.InSequence.{on_fits}
use Rattle.pq_rewrite.proofs.Standing.{has_still, has_there, has_within}
use Rattle.pq_rewrite.proofs.Turns.{giving_as, has_idle_free, union_giving, union_within}
use Rattle.pq_forward.specs.Forward.{FitAsForwards, IsForwards, joint}
use Rattle.pq_forward.proofs.Halves.{either_halves, halves_of, turn_halves, within_halves}

-- what a tree gives on a packet is a packet
given_fits : (P : Numbers → Numbers → Type 0) (t : Tree (List Written)) → IsGiving P t → (x z : Numbers) → Fit x → Gives t x z → Fit z
given_fits P t giving x z fit (k, w, within, at, is) = subst Fit (sym is) (on_fits w x (subst AllFit at ((giving x fit).fit k w within)) fit)

-- a tree of policies is idle-free
pub forwards_idle_free : (T : Topology) (J : Joint) (ps : Policies) (ts : List (Tree (List Written))) (k : ℕ)
    → HasAt (IsForwards T J ps) ts k → IsIdleFreeAt ts k
forwards_idle_free T J ps = has_idle_free (IsForwards T J ps) (Yields T ps J) (λ t is. is.giving)

module _ (T : Topology) (xs ys : List PolicyTree) (t u r : Tree (List Written)) where
  -- the union of two halves is that of all
  united : IsForwards T AnyOne (policies xs) t → IsForwards T AnyOne (policies ys) u → IsUnion t u r → IsForwards T AnyOne (policies (xs ++ ys)) r
  united left right union = record {
    giving = giving_as (λ x y. Yields T (policies xs) AnyOne x y ⊎ Yields T (policies ys) AnyOne x y) (Yields T (policies (xs ++ ys)) AnyOne) r
        (λ x y fit. let same = either_halves T xs ys x y in (same.1, same.0))
        (union_giving (Yields T (policies xs) AnyOne) (Yields T (policies ys) AnyOne) t u r left.giving right.giving union);
    covers = λ ns topology within.
        let parts = within_halves ns xs ys within in
        let first = left.covers ns topology parts.0 in
        let second = right.covers ns topology parts.1 in
        record {
          tests = union_within ns t u r first.tests second.tests union;
          writes = λ f n writes. elim (union.writes f n writes) [ inl in_t ↦ first.writes f n in_t | inr in_u ↦ second.writes f n in_u ];
        };
  }

  module _ (left : IsForwards T Chained (policies xs) t) (right : IsForwards T Chained (policies ys) u) where
    -- what the second tree gives on what the first gives, all give in turn
    given_in_turn : (x y : Numbers) → Fit x → ((z : Numbers) × Gives t x z × Gives u z y) → Yields T (policies (xs ++ ys)) Chained x y
    given_in_turn x y fit (z, first, second) =
        let z_fit = given_fits (Yields T (policies xs) Chained) t left.giving x z fit first in
        (turn_halves T xs ys x y).1 (z, ((left.giving x fit).gives z).0 first, ((right.giving z z_fit).gives y).0 second)

    -- and what all give in turn the second tree gives on what the first gives
    turn_given : (x y : Numbers) → Fit x → Yields T (policies (xs ++ ys)) Chained x y → (z : Numbers) × Gives t x z × Gives u z y
    turn_given x y fit yielded = by ((turn_halves T xs ys x y).0 yielded)
      where
        by : ((z : Numbers) × Yields T (policies xs) Chained x z × Yields T (policies ys) Chained z y) → (z : Numbers) × Gives t x z × Gives u z y
        by (z, first, second) =
            let given = ((left.giving x fit).gives z).1 first in
            let z_fit = given_fits (Yields T (policies xs) Chained) t left.giving x z fit given in
            (z, given, ((right.giving z z_fit).gives y).1 second)

    -- so the sequence of two halves is that of all
    sequenced : IsSequence t u r → IsForwards T Chained (policies (xs ++ ys)) r
    sequenced sequence = record {
      giving = giving_as (λ x y. (z : Numbers) × Gives t x z × Gives u z y) (Yields T (policies (xs ++ ys)) Chained) r
          (λ x y fit. (given_in_turn x y fit, turn_given x y fit)) sequence.giving;
      covers = λ ns topology within.
          let parts = within_halves ns xs ys within in
          let first = left.covers ns topology parts.0 in
          let second = right.covers ns topology parts.1 in
          record {
            tests = sequence.tests ns first second;
            writes = λ f n writes. elim (sequence.writes f n writes) [ inl in_t ↦ first.writes f n in_t | inr in_u ↦ second.writes f n in_u ];
          };
    }

-- the trees of both halves of some policies
pub record HaveHalves (T : Topology) (J : Joint) (ps : List Policy) (ts : List (Tree (List Written))) (i j : ℕ) : Type 0 where
  pub first : List PolicyTree
  pub behind : List PolicyTree
  pub all : policy_trees ps ≡ policies (first ++ behind)
  pub front : HasAt (IsForwards T J (policies first)) ts i
  pub back : HasAt (IsForwards T J (policies behind)) ts j

-- are where they were made one after the other
pub have_halves : (T : Topology) (J : Joint) (ps front back : List Policy) (m : ℕ) (between new : List (Tree (List Written))) (i j : ℕ)
    → front ≡ take m ps → back ≡ drop m ps → Keeps between new
    → HasAt (IsForwards T J (policy_trees front)) between i → HasAt (IsForwards T J (policy_trees back)) new j → HaveHalves T J ps new i j
have_halves T J ps front back m between new i j front_is back_is keeps in_front in_back = record {
  first = map policy_tree front;
  behind = map policy_tree back;
  all = halves_of ps front back m front_is back_is;
  front = has_still (IsForwards T J (policy_trees front)) between new i keeps in_front;
  back = in_back;
}

module _ {T : Topology} {J : Joint} {ps : List Policy} {ts : List (Tree (List Written))} {i j : ℕ} (halves : HaveHalves T J ps ts i j) where
  -- the first is within the store
  pub front_within : i < length ts
  front_within = has_within (IsForwards T J (policies halves.first)) ts i halves.front

  -- and so does the other
  pub back_within : j < length ts
  back_within = has_within (IsForwards T J (policies halves.behind)) ts j halves.back

  -- the first is idle-free
  pub front_idle_free : IsIdleFreeAt ts i
  front_idle_free = forwards_idle_free T J (policies halves.first) ts i halves.front

  -- and so is the other
  pub back_idle_free : IsIdleFreeAt ts j
  back_idle_free = forwards_idle_free T J (policies halves.behind) ts j halves.back

  module _ (fits : FitAsForwards T (policy_trees ps)) where
    -- they may come in sequence
    pub halves_in_sequence : FitInSequenceAt ts i j
    halves_in_sequence t u t_is u_is =
        let fit = subst (FitAsForwards T) halves.all fits in
        let left : IsForwards T J (policies halves.first) t = has_there (IsForwards T J (policies halves.first)) ts i t halves.front t_is in
        let right : IsForwards T J (policies halves.behind) u = has_there (IsForwards T J (policies halves.behind)) ts j u halves.back u_is in
        room_for (λ ns (topology, within).
        let parts = within_halves ns halves.first halves.behind within in
        (left.covers ns topology parts.0, right.covers ns topology parts.1)) fit

    -- and together
    pub halves_together : FitTogetherAt ts i ts j
    halves_together t u t_is u_is =
        room_for (λ ns covers. let first = covers.0 in let second = covers.1 in (first.tests, second.tests)) (halves_in_sequence t u t_is u_is)

module _ (T : Topology) (ps : List Policy) (ts : List (Tree (List Written))) (i j : ℕ) (new : List (Tree (List Written))) (id : ℕ) where
  -- the union of both halves is that of all
  pub united_at : (in_turn : Bool) → in_turn ≡ false → HaveHalves T (joint in_turn) ps ts i j → UnitesAt ts i j new id
      → HasAt (IsForwards T (joint in_turn) (policy_trees ps)) new id
  united_at true is halves unites = absurd (true≢false is)
  united_at false is halves unites =
      let front = halves.front in
      let back = halves.back in
      let made = unites front.0 back.0 front.1 back.1 in
      let all = united T halves.first halves.behind front.0 back.0 made.0 front.2 back.2 made.2 in
      (made.0, made.1, subst (λ qs. IsForwards T AnyOne qs made.0) (sym halves.all) all)

  -- and so is their sequence
  pub sequenced_at : (in_turn : Bool) → in_turn ≡ true → HaveHalves T (joint in_turn) ps ts i j → SequencesAt ts i j new id
      → HasAt (IsForwards T (joint in_turn) (policy_trees ps)) new id
  sequenced_at false is halves sequences = absurd (true≢false (sym is))
  sequenced_at true is halves sequences =
      let front = halves.front in
      let back = halves.back in
      let made = sequences front.0 back.0 front.1 back.1 in
      let all = sequenced T halves.first halves.behind front.0 back.0 made.0 front.2 back.2 made.2 in
      (made.0, made.1, subst (λ qs. IsForwards T Chained qs made.0) (sym halves.all) all)
