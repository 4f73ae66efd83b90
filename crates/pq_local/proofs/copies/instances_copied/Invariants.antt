use Rattle.std.proofs.Common.{◌≡◌, take}
use Rattle.pq_local.proofs.copies.instances_copied.Given as goal

-- those so far are copied
abbrev pub invariant-loop-instance : goal.invariant-loop-instance
invariant-loop-instance l = l.all.items ≡ take l.instance-index l.instances
