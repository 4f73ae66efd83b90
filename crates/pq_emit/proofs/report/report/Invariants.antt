use Rattle.std.proofs.Common.{◌≡◌}
use Rattle.pq_emit.specs.Held.{report_to}
use Rattle.pq_emit.proofs.report.report.Given as goal

abbrev pub invariant-loop-class : goal.invariant-loop-class
invariant-loop-class l = l.rows.items ≡ report_to l.classes l.instances l.class
