use Rattle.std.proofs.Common.{◌≡◌, ◌++◌, take}
use Rattle.std.specs.List.{flat_map}
use Rattle.pq_model.specs.Install.{pair_bytes}
use Rattle.pq_install.proofs.report.write_pairs.Given as goal

-- the pairs so far are appended
abbrev pub invariant-loop-pair : goal.invariant-loop-pair
invariant-loop-pair l = l.into.items ≡ l.initial.into.items ++ flat_map pair_bytes (take l.pair-index l.pairs)
