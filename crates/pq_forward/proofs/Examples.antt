-- The policies of examples have diagrams on the topology of examples.
use Rattle.std.proofs.Common.{ℕ, ◌^◌, ◌<◌, ◌≤◌, ◌≡◌, ◌∙◌, true, false, [], ◌∷◌, refl, sym, ap, subst, arith, rules}
use Rattle.std.specs.Prelude.{◌==◌, All}
use Rattle.std.specs.List.{IsDistinct, list_any}
use Rattle.std.proofs.lemmas.List.Elements.{All-nil, All-cons}
use Rattle.pq_fields.specs.declared.field.Field.{Field}
use Rattle.pq_fields.specs.declared.pred.Pred.TheVariants as pred
use Rattle.pq_fields.specs.declared.pred.Pred.TheOpen.{Pred-F}
use Rattle.pq_fields.specs.declared.pred.Pred.TheFolds.{fold-roll-Pred}
use Rattle.pq_fields.specs.Packet.{width_of}
use Rattle.pq_fields.specs.Pred.{IsLawfulPred, PredTree, pred_step, pred_tree, leaf as pred_leaf}
use Rattle.pq_fields.specs.Pred.PredTop.{Equals}
use Rattle.pq_model.specs.MatchFields.{IsPortNumber}
use Rattle.pq_model.specs.Topology.{Switch}
use Rattle.pq_model.specs.Install.{IsLawfulSwitch, IsLawfulLink}
use Rattle.pq_topo.specs.Named.{IsNamedTopology}
use Rattle.pq_policy.specs.declared.policy.Policy.TheVariants as policy
use Rattle.pq_policy.specs.declared.policy.Policy.TheOpen.{Policy-F}
use Rattle.pq_policy.specs.declared.policy.Policy.TheFolds.{fold-roll-Policy}
use Rattle.pq_policy.specs.Policy.{Forward, IsLawfulTop, PolicyTop, PolicyTree, Write, is_writable, leaf, none, policy_step, policy_tree}
use Rattle.pq_store.specs.Room.{AreFew, IsAmong}
use Rattle.pq_store.proofs.RoomLemmas.{roomy}
use Rattle.pq_apply.specs.Predicates.{IsPredWithin, NeedsAmong}
use Rattle.pq_apply.proofs.Examples.{found_among}
use Rattle.pq_apply.proofs.Required.{needs_among}
use Rattle.pq_forward.specs.Forward.{FitAsForward, IsPolicyTopWithin, IsTopologyWithin}
use Rattle.pq_forward.specs.Examples.{IsExamplePolicy, example_numbers, example_switch, example_topology}
use Rattle.pq_forward.proofs.Tops.{choice_of}

-- The topology.

switch_is_lawful : IsLawfulSwitch example_switch
switch_is_lawful = (
  omega arith,
  (λ none. cc),
  (omega arith, (omega arith, tt)),
  All-cons IsPortNumber 1 (2 ∷ 3 ∷ []) (search rules)
      (All-cons IsPortNumber 2 (3 ∷ []) (search rules) (All-cons IsPortNumber 3 [] (search rules) (All-nil IsPortNumber))),
)

-- the topology keeps the rules
pub topology_is_named : IsNamedTopology example_topology
unfolding IsDistinct
topology_is_named = record {
  lawful = record {
    few_switches = omega arith;
    few_ports = omega arith;
    switches = All-cons IsLawfulSwitch example_switch [] switch_is_lawful (All-nil IsLawfulSwitch);
    ascending = tt;
    links = All-nil (IsLawfulLink example_topology);
    linked_once = tt;
    links_ascend = tt;
  };
  names_differ = (tt, tt);
  limits = All-cons (λ (s : Switch). s.limit ≤ 16384) example_switch [] (omega arith) (All-nil (λ (s : Switch). s.limit ≤ 16384));
}

-- The numbers.

-- there are few
few : AreFew (λ f. example_numbers)
few f whole = omega (arith, roomy f)

-- those in prerequisites are among them
needs_known : (f : Field) → NeedsAmong (λ g. example_numbers) f
needs_known f =
    needs_among (λ g. example_numbers) (found_among 0x0800 example_numbers refl) (found_among 0x86dd example_numbers refl) (found_among 6 example_numbers refl)
    (found_among 17 example_numbers refl) f

-- and those of the topology
topology_within : IsTopologyWithin (λ f. example_numbers) example_topology
topology_within =
    let AtPort : ℕ → Type 0 = λ p. IsAmong p example_numbers in
    let At : Switch → Type 0 = λ s. IsAmong s.datapath example_numbers × All AtPort s.ports in
    All-cons At example_switch [] (
      found_among 1 example_numbers refl,
      All-cons AtPort 1 (2 ∷ 3 ∷ []) (found_among 1 example_numbers refl)
          (All-cons AtPort 2 (3 ∷ []) (found_among 2 example_numbers refl)
          (All-cons AtPort 3 [] (found_among 3 example_numbers refl) (All-nil AtPort))),
    ) (All-nil At)

-- so examples have diagrams
pub example_fits : (p : PolicyTree) → IsExamplePolicy p → FitAsForward example_topology p
example_fits p example = record { numbers = λ f. example_numbers; few = few; within = (topology_within, example.within) }

-- The policies.

-- a policy without operands
leaf_example : (top : PolicyTop) → IsLawfulTop top none → IsPolicyTopWithin (λ f. example_numbers) top → IsExamplePolicy (leaf top)
leaf_example top lawful within = record { lawful = (lawful, tt, tt); within = (within, tt, tt) }

module _ (n : ℕ) (known : list_any (λ m. n == m) example_numbers ≡ true) where
  -- the packet at a port
  pub port_example : 1 ≤ n → n ≤ 4294967040 → IsExamplePolicy (policy_tree (policy.Fwd n))
  port_example least most = subst IsExamplePolicy (sym is) (leaf_example (Forward n) (least, most) (found_among n example_numbers known))
    where
      is : policy_tree (policy.Fwd n) ≡ leaf (Forward n)
      is = ap policy_tree (sym (policy.rolls-Fwd n)) ∙ fold-roll-Policy PolicyTree policy_step (Policy-F.Fwd n)

  module _ (f : Field) (fits : n < 2 ^ width_of f) where
    -- the write of a number
    pub write_example : is_writable f ≡ true → IsExamplePolicy (policy_tree (policy.Mod f n))
    write_example writable =
        subst IsExamplePolicy (sym is) (leaf_example (Write f n) (writable, fits) (
          λ whole. found_among n example_numbers known,
          needs_known f,
        ))
      where
        is : policy_tree (policy.Mod f n) ≡ leaf (Write f n)
        is = ap policy_tree (sym (policy.rolls-Mod f n)) ∙ fold-roll-Policy PolicyTree policy_step (Policy-F.Mod f n)

    -- the test of a number
    abbrev pub equal : PredTree
    equal = pred_tree (pred.Equal f n)

    equal_is : equal ≡ pred_leaf (Equals f n)
    equal_is = ap pred_tree (sym (pred.rolls-Equal f n)) ∙ fold-roll-Pred PredTree pred_step (Pred-F.Equal f n)

    equal_lawful : IsLawfulPred equal
    equal_lawful = subst IsLawfulPred (sym equal_is) (fits, tt, tt)

    equal_within : IsPredWithin (λ g. example_numbers) equal
    equal_within = subst (IsPredWithin (λ g. example_numbers)) (sym equal_is) ((λ whole. found_among n example_numbers known, needs_known f), tt, tt)

    -- a choice by a number
    pub choice_example : (p q : PolicyTree) → IsExamplePolicy p → IsExamplePolicy q → IsExamplePolicy (choice_of equal p q)
    choice_example p q first second =
        let p_lawful = first.lawful in
        let p_within = first.within in
        record {
          lawful = (equal_lawful, (p_lawful.0, p_lawful.1, second.lawful), tt);
          within = (equal_within, (p_within.0, p_within.1, second.within), tt);
        }
