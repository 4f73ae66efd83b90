use Rattle.std.proofs.Common.{◌≡◌, length}
use Rattle.std.specs.List.{flat_map}
use Rattle.pq_model.specs.Install.{row_bytes}
use Rattle.pq_install.specs.Front.{IsAtFront}
use Rattle.pq_install.specs.Rows.{AreReadRows}
use Rattle.pq_install.proofs.read.report.row_list.Given as goal

-- the rows so far are at the front
abbrev pub invariant-loop : goal.invariant-loop
invariant-loop l = (length l.rows.items ≡ l.counter) × IsAtFront (AreReadRows l.queries) (flat_map row_bytes) l.bytes l.rows.items l.rest
