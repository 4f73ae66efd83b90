use Rattle.std.proofs.Common.{◌≡◌, map}
use Rattle.pq_policy.specs.Policy.{policy_tree}
use Rattle.policy_sizes.specs.Routes.{first_routes}
use Rattle.policy_sizes.proofs.routes.routes.Given as goal

-- the operands so far are the first routes
abbrev pub invariant-loop-place : goal.invariant-loop-place
invariant-loop-place l = map policy_tree l.operands.items ≡ first_routes l.place
