use Rattle.std.proofs.Common.{◌≡◌, ◌++◌}
use Rattle.pq_policy.proofs.sets.listed.Given as goal

abbrev pub invariant-loop-x : goal.invariant-loop-x
invariant-loop-x l = l.xs.items ++ l.x-iterator ≡ l.fn.set.keys
