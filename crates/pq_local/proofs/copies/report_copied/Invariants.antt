use Rattle.std.proofs.Common.{◌≡◌, take}
use Rattle.pq_local.proofs.copies.report_copied.Given as goal

-- those so far are copied
abbrev pub invariant-loop-row : goal.invariant-loop-row
invariant-loop-row l = l.all.items ≡ take l.row-index l.rows
