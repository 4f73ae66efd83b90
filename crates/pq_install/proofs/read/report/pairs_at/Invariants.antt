use Rattle.std.proofs.Common.{◌≡◌, ◌++◌, length, All}
use Rattle.std.specs.List.{flat_map}
use Rattle.pq_model.specs.Install.{pair_bytes}
use Rattle.pq_install.specs.Rows.{HasNumbers}
use Rattle.pq_install.proofs.read.report.pairs_at.Given as goal

-- the instances so far are at the front
abbrev pub invariant-loop : goal.invariant-loop
invariant-loop l = (l.bytes ≡ flat_map pair_bytes l.pairs.items ++ l.rest) × (length l.pairs.items ≡ l.counter) × All HasNumbers l.pairs.items
