-- What policies give together, from what the first of them and those after these give.
use Rattle.std.proofs.Common.{ℕ, ◌+◌, ◌<◌, ◌≤◌, ◌≡◌, ◌∙◌, suc, List, [], ◌∷◌, ◌++◌, map, take, drop, length, length-append, get_or, inl}
use Rattle.std.proofs.Common.{inr, refl, sym, ap, subst, arith}
use Rattle.std.specs.Prelude.{◌⊎◌, ◌↔◌}
use Rattle.std.proofs.lemmas.List.{length-map, map-append, take-append-drop}
use Rattle.pq_fields.specs.declared.field.Field.{Field}
use Rattle.pq_fields.specs.Packet.{Numbers}
use Rattle.pq_model.specs.Topology.{Topology}
use Rattle.pq_policy.specs.declared.policy.Policy.{Policy}
use Rattle.pq_policy.specs.Policy.{AnyOne, AreLawfulPolicies, Chained, Policies, PolicyTree, Yields, none, policies, policy_tree, policy_trees, put, yields}
use Rattle.pq_store.proofs.RoomLemmas.{room_for}
use Rattle.pq_forward.specs.Forward.{ArePoliciesWithin, FitAsForwards, number_of, work_of, works}

-- the policies of a list are those of its halves
pub halves_of : (ps front back : List Policy) (m : ℕ) → front ≡ take m ps → back ≡ drop m ps
    → policy_trees ps ≡ policies (map policy_tree front ++ map policy_tree back)
halves_of ps front back m front_is back_is =
    ap policy_trees (sym (take-append-drop m ps))
    ∙ (ap (λ qs. policy_trees (qs ++ drop m ps)) (sym front_is)
    ∙ (ap (λ qs. policy_trees (front ++ qs)) (sym back_is)
    ∙ ap policies (map-append policy_tree front back)))

module _ (T : Topology) where
  -- any one of all is any one of the first or of those after them
  pub either_halves : (ps qs : List PolicyTree) (x y : Numbers)
      → Yields T (policies (ps ++ qs)) AnyOne x y ↔ (Yields T (policies ps) AnyOne x y ⊎ Yields T (policies qs) AnyOne x y)
  either_halves ps qs x y = (into ps, back ps)
    where
      into : (zs : List PolicyTree) → Yields T (policies (zs ++ qs)) AnyOne x y → Yields T (policies zs) AnyOne x y ⊎ Yields T (policies qs) AnyOne x y
      into [] later = inr later
      into (z ∷ zs) (inl first) = inl (inl first)
      into (z ∷ zs) (inr rest) = elim (into zs rest) [ inl front ↦ inl (inr front) | inr later ↦ inr later ]

      back : (zs : List PolicyTree) → Yields T (policies zs) AnyOne x y ⊎ Yields T (policies qs) AnyOne x y → Yields T (policies (zs ++ qs)) AnyOne x y
      back [] (inl never) = absurd never
      back [] (inr later) = later
      back (z ∷ zs) (inl (inl first)) = inl first
      back (z ∷ zs) (inl (inr front)) = inr (back zs (inl front))
      back (z ∷ zs) (inr later) = inr (back zs (inr later))

  -- all in turn are the first and then those after them
  pub turn_halves : (ps qs : List PolicyTree) (x y : Numbers)
      → Yields T (policies (ps ++ qs)) Chained x y ↔ ((z : Numbers) × Yields T (policies ps) Chained x z × Yields T (policies qs) Chained z y)
  turn_halves ps qs x y = (into ps x, back ps x)
    where
      into : (zs : List PolicyTree) (w : Numbers) → Yields T (policies (zs ++ qs)) Chained w y
          → (z : Numbers) × Yields T (policies zs) Chained w z × Yields T (policies qs) Chained z y
      into [] w later = (w, refl, later)
      into (p ∷ zs) w (z, first, rest) = let more = into zs z rest in (more.0, (z, first, more.1), more.2)

      back : (zs : List PolicyTree) (w : Numbers) → ((z : Numbers) × Yields T (policies zs) Chained w z × Yields T (policies qs) Chained z y)
          → Yields T (policies (zs ++ qs)) Chained w y
      back [] w (z, is, later) = subst (λ v. Yields T (policies qs) Chained v y) is later
      back (p ∷ zs) w (z, (v, first, front), later) = (v, first, back zs v (z, front, later))

  -- any one of one policy gives what it gives
  pub one_either : (p : PolicyTree) (x y : Numbers) → yields T p x y ↔ Yields T (policies (p ∷ [])) AnyOne x y
  one_either p x y = (λ given. inl given, λ any. elim any [ inl given ↦ given | inr never ↦ absurd never ])

  -- and so does one in turn
  pub one_in_turn : (p : PolicyTree) (x y : Numbers) → yields T p x y ↔ Yields T (policies (p ∷ [])) Chained x y
  one_in_turn p x y = (λ given. (y, given, refl), back)
    where
      back : Yields T (policies (p ∷ [])) Chained x y → yields T p x y
      back (z, given, is) = subst (λ v. yields T p x v) (sym is) given

-- numbers of all are those of the first and of those after them
pub within_halves : (ns : Field → List ℕ) (ps qs : List PolicyTree) → ArePoliciesWithin ns (policies (ps ++ qs))
    → ArePoliciesWithin ns (policies ps) × ArePoliciesWithin ns (policies qs)
within_halves ns [] qs within = (tt, within)
within_halves ns (p ∷ ps) qs within = let rest = within_halves ns ps qs within.2 in ((within.0, within.1, rest.0), rest.1)

-- so are laws
pub lawful_halves : (ps qs : List PolicyTree) → AreLawfulPolicies (policies (ps ++ qs)) → AreLawfulPolicies (policies ps) × AreLawfulPolicies (policies qs)
lawful_halves [] qs lawful = (tt, lawful)
lawful_halves (p ∷ ps) qs lawful = let rest = lawful_halves ps qs lawful.2 in ((lawful.0, lawful.1, rest.0), rest.1)

-- so the first fit where all do, and those after them
pub fit_halves : (T : Topology) (ps qs : List PolicyTree) → FitAsForwards T (policies (ps ++ qs))
    → FitAsForwards T (policies ps) × FitAsForwards T (policies qs)
fit_halves T ps qs fit = (
  room_for (λ ns (topology, within). (topology, (within_halves ns ps qs within).0)) fit,
  room_for (λ ns (topology, within). (topology, (within_halves ns ps qs within).1)) fit,
)

-- Steps.

-- there are as many policies as in the list
count_of : (ps : List PolicyTree) → number_of (policies ps) ≡ length ps
count_of [] = refl
count_of (p ∷ ps) = ap suc (count_of ps)

-- those to each of them are those to each of the first and to each of those after them
works_halves : (ps qs : List PolicyTree) → works (policies (ps ++ qs)) ≡ works (policies ps) + works (policies qs)
works_halves [] qs = omega arith
works_halves (p ∷ ps) qs = let rest = works_halves ps qs in omega (arith, rest)

-- the steps to all together are one more than those to the first and to those after them, where there are some of both
pub steps_halves : (ps qs : List PolicyTree) → 1 ≤ length ps → 1 ≤ length qs → work_of (policies (ps ++ qs)) ≡ work_of (policies ps) + work_of (policies qs) + 1
steps_halves ps qs some_first some_behind =
    let all = count_of (ps ++ qs) ∙ length-append ps qs in
    let first = count_of ps in
    let behind = count_of qs in
    let steps = works_halves ps qs in
    omega (arith, all, first, behind, steps, some_first, some_behind)

-- Sizes, which fall from call to call.

-- how many policies there are, with those below them
abbrev pub size : Policies → ℕ
size none = 0
size (put top below rest) = suc (size below + size rest)

-- they are those of the first and those of the ones after
pub size_halves : (ps qs : List PolicyTree) → size (policies (ps ++ qs)) ≡ size (policies ps) + size (policies qs)
size_halves [] qs = omega arith
size_halves (p ∷ ps) qs = let rest = size_halves ps qs in omega (arith, rest)

-- where there are some there is one
pub size_some : (ps : List PolicyTree) → 1 ≤ length ps → 1 ≤ size (policies ps)
size_some [] some = absurd (omega arith)
size_some (p ∷ ps) some = omega arith

-- A list of policies and its halves.

-- a list of none
pub none_listed : (ps : List Policy) → length ps < 1 → policy_trees ps ≡ none
none_listed [] short = refl
none_listed (p ∷ ps) short = absurd (omega arith)

-- a list of one
pub one_listed : (ps : List Policy) (p : Policy) → length ps < 2 → 1 ≤ length ps → p ≡ get_or ps 0 p → policy_trees ps ≡ policies (policy_tree p ∷ [])
one_listed [] p short long is = absurd (omega arith)
one_listed (q ∷ []) p short long is = ap (λ r. policies (policy_tree r ∷ [])) (sym is)
one_listed (q ∷ r ∷ ps) p short long is = absurd (omega arith)

module _ (ps front back : List Policy) (m : ℕ) (front_is : front ≡ take m ps) (back_is : back ≡ drop m ps) where
  -- both halves are lawful
  pub halves_lawful : AreLawfulPolicies (policy_trees ps) → AreLawfulPolicies (policy_trees front) × AreLawfulPolicies (policy_trees back)
  halves_lawful lawful =
      lawful_halves (map policy_tree front) (map policy_tree back)
      (subst AreLawfulPolicies (halves_of ps front back m front_is back_is) lawful)

  -- and fit
  pub halves_fit : (T : Topology) → FitAsForwards T (policy_trees ps) → FitAsForwards T (policy_trees front) × FitAsForwards T (policy_trees back)
  halves_fit T fit = fit_halves T (map policy_tree front) (map policy_tree back) (subst (FitAsForwards T) (halves_of ps front back m front_is back_is) fit)

  module _ (some_front : 1 ≤ length front) (some_back : 1 ≤ length back) where
    -- there are some policies in the first
    some_first : 1 ≤ length (map policy_tree front)
    some_first = subst (λ n. 1 ≤ n) (sym (length-map front policy_tree)) some_front

    -- and in those after them
    some_behind : 1 ≤ length (map policy_tree back)
    some_behind = subst (λ n. 1 ≤ n) (sym (length-map back policy_tree)) some_back

    -- so both are smaller than all
    pub halves_fall : (size (policy_trees front) < size (policy_trees ps)) × (size (policy_trees back) < size (policy_trees ps))
    halves_fall =
        let all : size (policy_trees ps) ≡ size (policy_trees front) + size (policy_trees back) =
        ap size (halves_of ps front back m front_is back_is) ∙ size_halves (map policy_tree front) (map policy_tree back) in
        let first = size_some (map policy_tree front) some_first in
        let behind = size_some (map policy_tree back) some_behind in
        (omega (arith, all, first, behind), omega (arith, all, first, behind))

    -- and all together take a step more than they
    pub halves_steps : work_of (policy_trees ps) ≡ work_of (policy_trees front) + work_of (policy_trees back) + 1
    halves_steps = ap work_of (halves_of ps front back m front_is back_is) ∙ steps_halves (map policy_tree front) (map policy_tree back) some_first some_behind
