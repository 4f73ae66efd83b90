use Rattle.std.proofs.Common.{◌≡◌, take}
use Rattle.pq_letters.specs.Numbering.{packets}
use Rattle.pq_letters.proofs.numbering.packets_of.Given as goal

abbrev pub invariant-loop-each : goal.invariant-loop-each
invariant-loop-each l = l.least.items ≡ packets (take l.each-index l.found)
