use Rattle.std.proofs.Common.{take}
use Rattle.pq_letters.specs.Numbering.{HaveSignatures}
use Rattle.pq_letters.proofs.numbering.signatures_of.Given as goal

abbrev pub invariant-loop-each : goal.invariant-loop-each
invariant-loop-each l = HaveSignatures l.signed (take l.each-index l.found) l.signatures.keys
