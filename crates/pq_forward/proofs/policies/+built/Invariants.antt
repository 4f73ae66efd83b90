use Rattle.std.proofs.Common.{◌+◌, ◌*◌, [], ◌∷◌}
use Rattle.pq_policy.specs.Policy.{policies, policy_tree, policy_trees}
use Rattle.pq_forward.proofs.Halves.{size}
use Rattle.pq_forward.proofs.policies.+built.Given as goal

abbrev pub decreases-built : goal.decreases-built
decreases-built g l = 2 * size (policies (policy_tree l.policy.now ∷ []))

abbrev pub decreases-joined : goal.decreases-joined
decreases-joined g l = 2 * size (policy_trees l.policies.now) + 1
