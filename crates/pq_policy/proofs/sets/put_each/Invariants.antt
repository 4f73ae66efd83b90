use Rattle.std.proofs.Common.{◌≡◌, drop}
use Rattle.pq_policy.specs.Grown.{on_each, with_packet}
use Rattle.pq_policy.proofs.sets.put_each.Given as goal

abbrev pub invariant-loop-x : goal.invariant-loop-x
invariant-loop-x l = on_each with_packet (drop l.x-index l.xs) l.into.keys ≡ on_each with_packet l.xs l.initial.into.keys
