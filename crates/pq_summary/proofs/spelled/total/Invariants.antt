use Rattle.std.proofs.Common.{◌≡◌, take}
use Rattle.std.specs.Prelude.{sum_by}
use Rattle.pq_summary.proofs.spelled.total.Given as goal

-- those so far
abbrev pub invariant-loop-value : goal.invariant-loop-value
invariant-loop-value g l = l.total ≡ sum_by g.T.Spelled.bytes (take l.value-index l.values)
