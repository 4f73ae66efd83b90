use Rattle.std.proofs.Common.{◌≡◌, take}
use Rattle.pq_layout.specs.Emission.{instances_at}
use Rattle.pq_emit.proofs.report.instances_at.Given as goal

abbrev pub invariant-loop-number : goal.invariant-loop-number
invariant-loop-number l = l.pairs.items ≡ instances_at l.instances (take l.number-index l.numbers)
