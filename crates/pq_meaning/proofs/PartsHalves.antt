-- The diagram of parts, from those of the first of them and of those after these.
use Rattle.std.proofs.Common.{ℕ, ◌+◌, ◌<◌, ◌≤◌, ◌≡◌, ◌∙◌, List, [], ◌∷◌, ◌++◌, take, drop, length, length-append, get_or, Some, inl, inr, sym, ap, subst, arith}
use Rattle.std.specs.Prelude.{◌⊎◌, slice_get}
use Rattle.std.proofs.lemmas.List.{length-map, map-append}
use Rattle.std.proofs.lemmas.List.Elements.{All-head}
use Rattle.std.proofs.lemmas.List.Sums.{sum_by-append, sum_by-cons}
use Rattle.pq_fields.specs.Writes.{Written}
use Rattle.pq_model.specs.Topology.{Topology}
use Rattle.pq_policy.specs.declared.policy.Policy.{Policy}
use Rattle.pq_policy.specs.Policy.{IsLawfulPolicy, PolicyTree, policy_tree, yields}
use Rattle.pq_store.specs.Tree.{Tree}
use Rattle.pq_store.specs.Tree.Tree.{Tip}
use Rattle.pq_store.specs.Store.{HasAt, Keeps}
use Rattle.pq_store.proofs.RoomLemmas.{room_for}
use Rattle.pq_apply.specs.Product.{FitTogetherAt}
use Rattle.pq_rewrite.specs.Calls.{IsIdleFreeAt, IsUnion, UnitesAt}
use Rattle.pq_rewrite.proofs.Halves.{all_halves, any_halves, any_one, halves_there, none_there, one_there}
use Rattle.pq_rewrite.proofs.Sets.{any_none, given_none}
use Rattle.pq_rewrite.proofs.Standing.{has_still, has_there, has_within}
use Rattle.pq_rewrite.proofs.Turns.{giving_as, has_idle_free, union_giving, union_within}
use Rattle.pq_forward.specs.Forward.{FitAsForward, IsForward, IsPolicyWithin, work}
use Rattle.pq_meaning.specs.Parts.{AreLawful, FitAsParts, IsUnionOfParts, any_yields, part_trees, work_of_parts}

-- the parts of a list are those of its halves
pub parts_of : (parts front back : List (List ℕ × Policy)) (m : ℕ) → front ≡ take m parts → back ≡ drop m parts
    → part_trees parts ≡ part_trees front ++ part_trees back
parts_of parts front back m front_is back_is =
    ap part_trees (halves_there parts front back m front_is back_is) ∙ map-append (λ (part : List ℕ × Policy). policy_tree part.1) front back

-- a list of one part
pub one_part : (parts : List (List ℕ × Policy)) (part : List ℕ × Policy) → length parts < 2 → 1 ≤ length parts → part ≡ get_or parts 0 part
    → part_trees parts ≡ policy_tree part.1 ∷ []
one_part parts part short long is = ap part_trees (one_there parts part short long is)

-- The trees.

-- the leaf of no writes is the tree of no parts
pub none_united : (T : Topology) → IsUnionOfParts T [] (Tip [])
none_united T = record {
  giving = λ x fit. given_none x (any_yields T [] x) (λ y. any_none (λ p. yields T p x y));
  covers = λ ns topology within. record { tests = λ f v none. absurd none; writes = λ f n (x, fit, written). absurd (any_none _ written) };
}

-- and is at its place
pub none_at : (T : Topology) (parts : List (List ℕ × Policy)) (ts : List (Tree (List Written))) (k : ℕ)
    → length parts < 1 → slice_get ts k ≡ Some (Tip []) → HasAt (IsUnionOfParts T (part_trees parts)) ts k
none_at T parts ts k short there = (Tip [], there, subst (λ ps. IsUnionOfParts T ps (Tip [])) (sym (ap part_trees (none_there parts short))) (none_united T))

-- the tree of a part is that of it alone
pub one_united : (T : Topology) (p : PolicyTree) (t : Tree (List Written)) → IsForward T p t → IsUnionOfParts T (p ∷ []) t
one_united T p t is = record {
  giving = giving_as (yields T p) (any_yields T (p ∷ [])) t (λ x y fit. any_one (λ q. yields T q x y) p) is.giving;
  covers = λ ns topology within. is.covers ns topology (All-head (IsPolicyWithin ns) p [] within);
}

module _ (T : Topology) (ps qs : List PolicyTree) (t u r : Tree (List Written)) where
  -- the union of two halves is that of all
  pub halves_united : IsUnionOfParts T ps t → IsUnionOfParts T qs u → IsUnion t u r → IsUnionOfParts T (ps ++ qs) r
  halves_united left right union = record {
    giving = giving_as (λ x y. any_yields T ps x y ⊎ any_yields T qs x y) (any_yields T (ps ++ qs)) r
        (λ x y fit. any_halves (λ p. yields T p x y) ps qs)
        (union_giving (any_yields T ps) (any_yields T qs) t u r left.giving right.giving union);
    covers = λ ns topology within.
        let parts = all_halves (IsPolicyWithin ns) ps qs within in
        let first = left.covers ns topology parts.0 in
        let second = right.covers ns topology parts.1 in
        record {
          tests = union_within ns t u r first.tests second.tests union;
          writes = λ f n writes. elim (union.writes f n writes) [ inl in_t ↦ first.writes f n in_t | inr in_u ↦ second.writes f n in_u ];
        };
  }

-- Both halves.

-- the trees of both halves of some parts
pub record HaveHalves (T : Topology) (all : List PolicyTree) (ts : List (Tree (List Written))) (i j : ℕ) : Type 0 where
  pub first : List PolicyTree
  pub behind : List PolicyTree
  pub is : all ≡ first ++ behind
  pub front : HasAt (IsUnionOfParts T first) ts i
  pub back : HasAt (IsUnionOfParts T behind) ts j

-- are where they were made one after the other
pub have_halves : (T : Topology) (parts front back : List (List ℕ × Policy)) (m : ℕ) (between new : List (Tree (List Written))) (i j : ℕ)
    → front ≡ take m parts → back ≡ drop m parts → Keeps between new
    → HasAt (IsUnionOfParts T (part_trees front)) between i → HasAt (IsUnionOfParts T (part_trees back)) new j → HaveHalves T (part_trees parts) new i j
have_halves T parts front back m between new i j front_is back_is keeps in_front in_back = record {
  first = part_trees front;
  behind = part_trees back;
  is = parts_of parts front back m front_is back_is;
  front = has_still (IsUnionOfParts T (part_trees front)) between new i keeps in_front;
  back = in_back;
}

module _ {T : Topology} {all : List PolicyTree} {ts : List (Tree (List Written))} {i j : ℕ} (halves : HaveHalves T all ts i j) where
  pub front_within : i < length ts
  front_within = has_within (IsUnionOfParts T halves.first) ts i halves.front

  pub back_within : j < length ts
  back_within = has_within (IsUnionOfParts T halves.behind) ts j halves.back

  pub front_idle_free : IsIdleFreeAt ts i
  front_idle_free = has_idle_free (IsUnionOfParts T halves.first) (any_yields T halves.first) (λ t is. is.giving) ts i halves.front

  pub back_idle_free : IsIdleFreeAt ts j
  back_idle_free = has_idle_free (IsUnionOfParts T halves.behind) (any_yields T halves.behind) (λ t is. is.giving) ts j halves.back

  -- they may come together
  pub halves_together : FitAsParts T all → FitTogetherAt ts i ts j
  halves_together fits t u t_is u_is =
      let fit = subst (FitAsParts T) halves.is fits in
      let left : IsUnionOfParts T halves.first t = has_there (IsUnionOfParts T halves.first) ts i t halves.front t_is in
      let right : IsUnionOfParts T halves.behind u = has_there (IsUnionOfParts T halves.behind) ts j u halves.back u_is in
      room_for (λ ns (topology, within).
      let parts = all_halves (IsPolicyWithin ns) halves.first halves.behind within in
      let first = left.covers ns topology parts.0 in
      let second = right.covers ns topology parts.1 in
      (first.tests, second.tests)) fit

  -- and their union is the tree of all
  pub united_at : (new : List (Tree (List Written))) (id : ℕ) → UnitesAt ts i j new id → HasAt (IsUnionOfParts T all) new id
  united_at new id unites =
      let front = halves.front in
      let back = halves.back in
      let made = unites front.0 back.0 front.1 back.1 in (
        made.0,
        made.1,
        subst (λ ps. IsUnionOfParts T ps made.0) (sym halves.is)
            (halves_united T halves.first halves.behind front.0 back.0 made.0 front.2 back.2 made.2),
      )

-- The first and those after them fit and are lawful where all are.

module _ (parts front back : List (List ℕ × Policy)) (m : ℕ) (front_is : front ≡ take m parts) (back_is : back ≡ drop m parts) where
  pub halves_lawful : AreLawful (part_trees parts) → AreLawful (part_trees front) × AreLawful (part_trees back)
  halves_lawful lawful = all_halves IsLawfulPolicy (part_trees front) (part_trees back) (subst AreLawful (parts_of parts front back m front_is back_is) lawful)

  pub halves_fit : (T : Topology) → FitAsParts T (part_trees parts) → FitAsParts T (part_trees front) × FitAsParts T (part_trees back)
  halves_fit T fits =
      let fit = subst (FitAsParts T) (parts_of parts front back m front_is back_is) fits in (
        room_for (λ ns (topology, within). (topology, (all_halves (IsPolicyWithin ns) (part_trees front) (part_trees back) within).0)) fit,
        room_for (λ ns (topology, within). (topology, (all_halves (IsPolicyWithin ns) (part_trees front) (part_trees back) within).1)) fit,
      )

  -- all take one step more than both, where there are some of both
  pub halves_steps : 1 ≤ length front → 1 ≤ length back
      → work_of_parts (part_trees parts) ≡ work_of_parts (part_trees front) + work_of_parts (part_trees back) + 1
  halves_steps some_front some_back =
      let ps = part_trees front in
      let qs = part_trees back in
      let few : length ps ≡ length front = length-map front (λ (part : List ℕ × Policy). policy_tree part.1) in
      let few_back : length qs ≡ length back = length-map back (λ (part : List ℕ × Policy). policy_tree part.1) in
      let count = length-append ps qs in
      let works = sum_by-append work ps qs in
      ap work_of_parts (parts_of parts front back m front_is back_is) ∙ omega (arith, few, few_back, count, works, some_front, some_back)

-- One part.

module _ (T : Topology) (parts : List (List ℕ × Policy)) (part : List ℕ × Policy) (short : length parts < 2) (long : 1 ≤ length parts)
    (is : part ≡ get_or parts 0 part) where
  pub one_lawful : AreLawful (part_trees parts) → IsLawfulPolicy (policy_tree part.1)
  one_lawful lawful = All-head IsLawfulPolicy (policy_tree part.1) [] (subst AreLawful (one_part parts part short long is) lawful)

  pub one_fits : FitAsParts T (part_trees parts) → FitAsForward T (policy_tree part.1)
  one_fits fits =
      room_for (λ ns (topology, within). (topology, All-head (IsPolicyWithin ns) (policy_tree part.1) [] within))
      (subst (FitAsParts T) (one_part parts part short long is) fits)

  -- it takes the steps of its diagram
  pub one_steps : work_of_parts (part_trees parts) ≡ work (policy_tree part.1)
  one_steps =
      let sum = sum_by-cons work (policy_tree part.1) [] in
      ap work_of_parts (one_part parts part short long is) ∙ omega (arith, sum)

  -- and its diagram is that of all
  pub one_at : (ts : List (Tree (List Written))) (k : ℕ) → HasAt (IsForward T (policy_tree part.1)) ts k → HasAt (IsUnionOfParts T (part_trees parts)) ts k
  one_at ts k has = (
    has.0,
    has.1,
    subst (λ ps. IsUnionOfParts T ps has.0) (sym (one_part parts part short long is))
        (one_united T (policy_tree part.1) has.0 has.2),
  )
