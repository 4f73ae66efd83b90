use Rattle.std.proofs.Common.{◌≡◌, drop}
use Rattle.pq_values.specs.Known.{with_each, with_policy}
use Rattle.pq_values.specs.Stated.{part_trees}
use Rattle.pq_values.proofs.policies.put_parts.Given as goal

-- the parts that are left make the whole
abbrev pub invariant-loop-part : goal.invariant-loop-part
invariant-loop-part l = with_each with_policy (part_trees (drop l.part-index l.parts)) l.known.keys
    ≡ with_each with_policy (part_trees l.parts) l.initial.known.keys
