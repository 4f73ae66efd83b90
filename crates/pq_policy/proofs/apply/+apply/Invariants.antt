use Rattle.std.proofs.Common.{◌≡◌, drop, [], ◌∷◌}
use Rattle.pq_policy.specs.Grown.{grown, grown_together, on_each}
use Rattle.pq_policy.specs.Policy.{AnyOne, Chained, AreLawfulPolicies, policy_tree, policy_trees}
use Rattle.pq_policy.proofs.apply.+apply.Given as goal

abbrev pub invariant-add_any-loop-policy : goal.invariant-add_any-loop-policy
invariant-add_any-loop-policy l =
    AreLawfulPolicies (policy_trees (drop l.policy-index l.policies))
    × (grown_together l.topology (policy_trees (drop l.policy-index l.policies)) AnyOne (l.x ∷ []) l.into.keys
    ≡ grown_together l.topology (policy_trees l.policies) AnyOne (l.x ∷ []) l.initial.into.keys)

abbrev pub invariant-add_chained-loop-policy : goal.invariant-add_chained-loop-policy
invariant-add_chained-loop-policy l =
    AreLawfulPolicies (policy_trees (drop l.policy-index l.policies))
    × (grown_together l.topology (policy_trees (drop l.policy-index l.policies)) Chained l.given.items l.into.keys
    ≡ grown_together l.topology (policy_trees l.policies) Chained (l.x ∷ []) l.into.keys)

abbrev pub invariant-next-loop-x : goal.invariant-next-loop-x
invariant-next-loop-x l = on_each (grown l.topology (policy_tree l.policy)) (drop l.x-index l.xs) l.given.keys
    ≡ on_each (grown l.topology (policy_tree l.policy)) l.xs []
