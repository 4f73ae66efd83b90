use Rattle.std.proofs.Common.{◌≡◌, ◌++◌, take}
use Rattle.std.specs.List.{flat_map}
use Rattle.pq_model.specs.Install.{row_bytes}
use Rattle.pq_install.proofs.report.write_rows.Given as goal

-- the rows so far are appended
abbrev pub invariant-loop-row : goal.invariant-loop-row
invariant-loop-row l = l.into.items ≡ l.initial.into.items ++ flat_map row_bytes (take l.row-index l.rows)
