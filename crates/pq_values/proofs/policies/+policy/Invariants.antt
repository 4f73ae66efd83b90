use Rattle.std.proofs.Common.{◌≡◌, drop}
use Rattle.pq_policy.specs.Policy.{policy_trees}
use Rattle.pq_values.specs.Known.{with_policies}
use Rattle.pq_values.proofs.policies.+policy.Given as goal

-- the policies that are left make the whole
abbrev pub invariant-put_policies-loop-policy : goal.invariant-put_policies-loop-policy
invariant-put_policies-loop-policy l = with_policies (policy_trees (drop l.policy-index l.policies)) l.known.keys
    ≡ with_policies (policy_trees l.policies) l.initial.known.keys
