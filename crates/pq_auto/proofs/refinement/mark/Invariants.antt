use Rattle.std.proofs.Common.{◌≡◌, ◌++◌, take}
use Rattle.pq_auto.proofs.refinement.mark.Given as goal

abbrev pub invariant-loop-instance : goal.invariant-loop-instance
invariant-loop-instance l = l.key.items ≡ l.initial.key.items ++ take l.instance-index l.instance-items
