-- Unions of parts, and what gives nothing.
use Rattle.std.proofs.Common.{ℕ, ◌<◌, ◌≡◌, List, [], ◌++◌, take, drop, length, inl, inr, sym, subst}
use Rattle.std.specs.Prelude.{◌⊎◌}
use Rattle.std.proofs.lemmas.List.{take-append-drop}
use Rattle.pq_fields.specs.Writes.{Written, on}
use Rattle.pq_model.specs.Topology.{Topology}
use Rattle.pq_policy.specs.Policy.{PolicyTree}
use Rattle.pq_store.specs.Tree.{Tree}
use Rattle.pq_store.specs.Tree.Tree.{Tip}
use Rattle.pq_store.proofs.RoomLemmas.{room_for}
use Rattle.pq_apply.specs.Product.{FitTogetherAt}
use Rattle.pq_rewrite.specs.Calls.{IsIdleFreeAt, IsUnion, UnitesAt}
use Rattle.pq_rewrite.specs.Rewriting.{Gives, IsCanonicalRewriting, IsIdleFree}
use Rattle.pq_rewrite.proofs.Halves.{all_halves}
use Rattle.pq_rewrite.proofs.Sets.{any_none}
use Rattle.pq_rewrite.proofs.Standing.{has_there, has_within}
use Rattle.pq_rewrite.proofs.Turns.{giving_as, giving_idle_free, has_idle_free}
use Rattle.pq_forward.specs.Forward.{IsPolicyWithin}
use Rattle.pq_meaning.specs.Parts.{FitAsParts, IsUnionOfParts, any_yields}
use Rattle.pq_meaning.proofs.PartsHalves.{none_united, halves_united}
use Rattle.pq_sum.specs.Sum.{GivesNone, UnitesParts}

-- the parts of a list fit where all do
pub halves_fit : (T : Topology) (w : ℕ) (ps : List PolicyTree) → FitAsParts T ps → FitAsParts T (take w ps) × FitAsParts T (drop w ps)
halves_fit T w ps fits =
    let fit = subst (FitAsParts T) (sym (take-append-drop w ps)) fits in (
      room_for (λ ns (topology, within). (topology, (all_halves (IsPolicyWithin ns) (take w ps) (drop w ps) within).0)) fit,
      room_for (λ ns (topology, within). (topology, (all_halves (IsPolicyWithin ns) (take w ps) (drop w ps) within).1)) fit,
    )

-- a place with that leaf unites no parts
pub none_unites : (T : Topology) (ts : List (Tree (List Written))) (none : ℕ) → GivesNone ts none → UnitesParts T ts [] none
none_unites T ts none is = (Tip [], is, none_united T)

-- where no packets are given, the leaf is there
pub none_is : (T : Topology) (ts : List (Tree (List Written))) (none id : ℕ)
    → IsCanonicalRewriting ts → GivesNone ts none → UnitesParts T ts [] id → id ≡ none
none_is T ts none id canonical is (t, there, united) =
    let tip = none_united T in
    canonical id none t (Tip []) there is (giving_idle_free (any_yields T []) t united.giving) (giving_idle_free (any_yields T []) (Tip []) tip.giving)
    (λ x y fit.
    let left = (united.giving x fit).gives y in
    let right = (tip.giving x fit).gives y in
    (λ given. right.1 (left.0 given), λ given. left.1 (right.0 given)))

-- an idle-free tree is its union with the leaf of no writes
union_with_none : (t : Tree (List Written)) → IsIdleFree t → IsUnion t (Tip []) t
union_with_none t idle_free = record {
  giving = giving_as (Gives t) (λ x y. Gives t x y ⊎ Gives (Tip []) x y) t
      (λ x y fit. (λ given. inl given, λ either. elim either [ inl given ↦ given | inr none ↦ absurd (any_none (λ w. y ≡ on w x) none) ])) idle_free;
  tests = λ s tested. inl tested;
  writes = λ f n written. inl written;
}

module _ (T : Topology) (ts : List (Tree (List Written))) (ps qs : List PolicyTree) (i j : ℕ) (front : UnitesParts T ts ps i)
    (back : UnitesParts T ts qs j) where
  pub front_within : i < length ts
  front_within = has_within (IsUnionOfParts T ps) ts i front

  pub front_idle_free : IsIdleFreeAt ts i
  front_idle_free = has_idle_free (IsUnionOfParts T ps) (any_yields T ps) (λ t is. is.giving) ts i front

  pub back_within : j < length ts
  back_within = has_within (IsUnionOfParts T qs) ts j back

  pub back_idle_free : IsIdleFreeAt ts j
  back_idle_free = has_idle_free (IsUnionOfParts T qs) (any_yields T qs) (λ t is. is.giving) ts j back

  -- two unions may come together
  pub halves_together : FitAsParts T (ps ++ qs) → FitTogetherAt ts i ts j
  halves_together fits t u t_is u_is =
      let left : IsUnionOfParts T ps t = has_there (IsUnionOfParts T ps) ts i t front t_is in
      let right : IsUnionOfParts T qs u = has_there (IsUnionOfParts T qs) ts j u back u_is in
      room_for (λ ns (topology, within).
      let parts = all_halves (IsPolicyWithin ns) ps qs within in
      let first = left.covers ns topology parts.0 in
      let second = right.covers ns topology parts.1 in
      (first.tests, second.tests)) fits

  -- and what they give together is what all parts give
  pub united_at : (new : List (Tree (List Written))) (id : ℕ) → UnitesAt ts i j new id → UnitesParts T new (ps ++ qs) id
  united_at new id unites =
      let made = unites front.0 back.0 front.1 back.1 in
      (made.0, made.1, halves_united T ps qs front.0 back.0 made.0 front.2 back.2 made.2)

  -- with what gives nothing, the first is the union
  pub united_with_none : GivesNone ts j → UnitesParts T ts (ps ++ qs) i
  united_with_none none =
      let tip : IsUnionOfParts T qs (Tip []) = has_there (IsUnionOfParts T qs) ts j (Tip []) back none in
      let is = front.2 in
      (front.0, front.1, halves_united T ps qs front.0 (Tip []) front.0 is tip (union_with_none front.0 (giving_idle_free (any_yields T ps) front.0 is.giving)))
