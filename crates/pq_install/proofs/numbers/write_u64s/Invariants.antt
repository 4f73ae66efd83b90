use Rattle.std.proofs.Common.{◌≡◌, ◌++◌, take}
use Rattle.std.specs.List.{flat_map}
use Rattle.std.specs.Int.{w64, to_be_bytes}
use Rattle.pq_install.proofs.numbers.write_u64s.Given as goal

-- the numbers so far are appended
abbrev pub invariant-loop-number : goal.invariant-loop-number
invariant-loop-number l = l.into.items ≡ l.initial.into.items ++ flat_map (to_be_bytes w64) (take l.number-index l.numbers)
