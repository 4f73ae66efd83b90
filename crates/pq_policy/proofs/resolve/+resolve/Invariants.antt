use Rattle.std.proofs.Common.{◌≡◌, ◌++◌, map, drop, Ok}
use Rattle.pq_tree.specs.Trees.{trees}
use Rattle.pq_topo.specs.Naming.{gathered, next}
use Rattle.pq_policy.specs.Policy.{policy_tree}
use Rattle.pq_policy.specs.Resolved.{policy_readings}
use Rattle.pq_policy.proofs.resolve.+resolve.Given as goal

abbrev pub invariant-resolve_all-loop-term : goal.invariant-resolve_all-loop-term
invariant-resolve_all-loop-term l = next (gathered (policy_readings l.topology l.bytes (trees (drop l.term-index l.terms))))
    (λ ps. Ok (map policy_tree l.found.items ++ ps)) ≡ gathered (policy_readings l.topology l.bytes (trees l.terms))
