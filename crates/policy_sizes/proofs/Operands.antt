-- The routes, one after another, and the union of them, are policies of examples.
use Rattle.std.proofs.Common.{ℕ, zero, suc, ◌+◌, ◌%◌, ◌^◌, ◌<◌, ◌≡◌, ◌∙◌, ◌++◌, List, [], ◌∷◌, map, refl, ap, ap₂, arith}
use Rattle.std.specs.Prelude.{◌≢◌}
use Rattle.std.proofs.lemmas.List.{map-append}
use Rattle.pq_fields.specs.declared.field.Field.TheVariants.{Ipv4Dst}
use Rattle.pq_policy.specs.declared.policy.Policy.{Policy}
use Rattle.pq_policy.specs.Policy.{AreLawfulPolicies, Policies, PolicyTop, PolicyTree, none, policies, policy_tree, put}
use Rattle.pq_store.specs.Room.{IsAmong}
use Rattle.pq_apply.specs.Predicates.{NeedsAmong}
use Rattle.pq_apply.proofs.Examples.{found_among}
use Rattle.pq_apply.proofs.Required.{needs_among}
use Rattle.pq_forward.specs.Examples.{IsExamplePolicy, example_numbers}
use Rattle.pq_forward.specs.Forward.{ArePoliciesWithin, number_of}
use Rattle.policy_sizes.specs.Routes.{any_of, first_routes, network, route}

-- the trees of some policies and one more
pub one_more : (ps all : List Policy) (p : Policy) (ts : List PolicyTree) (t : PolicyTree) → all ≡ ps ++ p ∷ [] → map policy_tree ps ≡ ts
    → policy_tree p ≡ t → map policy_tree all ≡ ts ++ t ∷ []
one_more ps all p ts t pushed before last = ap (map policy_tree) pushed ∙ (map-append policy_tree ps (p ∷ []) ∙ ap₂ (λ us u. us ++ u ∷ []) before last)

-- a policy and others are not none
pub some_are : (top : PolicyTop) (below rest : Policies) → put top below rest ≢ none
some_are top below rest is = let e : suc (number_of rest) ≡ 0 = ap number_of is in absurd (omega (arith, e))

-- One route.

-- networks are addresses of 32 bits
network_fits : (place : ℕ) → network place < 2 ^ 32
network_fits place = omega arith

-- the numbers in the prerequisites of the destination are among those of examples
needs : NeedsAmong (λ f. example_numbers) Ipv4Dst
needs =
    needs_among (λ f. example_numbers) (found_among 0x0800 example_numbers refl) (found_among 0x86dd example_numbers refl) (found_among 6 example_numbers refl)
    (found_among 17 example_numbers refl) Ipv4Dst

-- so are both ports
port_among : (n : ℕ) → n < 2 → IsAmong (n + 1) example_numbers
port_among zero less = found_among 1 example_numbers refl
port_among (suc zero) less = found_among 2 example_numbers refl
port_among (suc (suc n)) less = absurd (omega (arith, less))

-- a route is a policy of examples
route_example : (place : ℕ) → IsExamplePolicy (route place)
route_example place = record {
  lawful = (some_are _ _ _, (((refl, network_fits place, omega arith), tt, tt), tt, ((omega arith, omega arith), tt, tt)), tt);
  within = (tt, ((needs, tt, tt), tt, (port_among (place % 2) (omega arith), tt, tt)), tt);
}

-- Some routes.

-- lawful policies with only the numbers of examples
record AreExamples (ps : Policies) : Type 0 where
  lawful : AreLawfulPolicies ps
  within : ArePoliciesWithin (λ f. example_numbers) ps

-- with one more at the end they are so too
and_one : (ps : List PolicyTree) (p : PolicyTree) → AreExamples (policies ps) → IsExamplePolicy p → AreExamples (policies (ps ++ p ∷ []))
and_one [] p operands last = record { lawful = last.lawful; within = last.within }
and_one (first ∷ ps) p operands last =
    let lawful = operands.lawful in
    let within = operands.within in
    let more = and_one ps p (record { lawful = lawful.2; within = within.2 }) last in
    record { lawful = (lawful.0, lawful.1, more.lawful); within = (within.0, within.1, more.within) }

-- the first routes are
first_examples : (n : ℕ) → AreExamples (policies (first_routes n))
first_examples zero = record { lawful = tt; within = tt }
first_examples (suc n) = and_one (first_routes n) (route n) (first_examples n) (route_example n)

-- a list with one more at the end is not empty
more_are : (ps : List PolicyTree) (p : PolicyTree) → policies (ps ++ p ∷ []) ≢ none
more_are [] p = some_are p.top p.below none
more_are (first ∷ ps) p = some_are first.top first.below (policies (ps ++ p ∷ []))

-- so the union of some routes is a policy of examples
pub routes_example : (count : ℕ) → 0 < count → IsExamplePolicy (any_of (first_routes count))
routes_example zero some = absurd (omega (arith, some))
routes_example (suc n) some =
    let operands = first_examples (suc n) in
    record { lawful = (more_are (first_routes n) (route n), operands.lawful, tt); within = (tt, operands.within, tt) }
