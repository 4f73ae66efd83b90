use Rattle.std.proofs.Common.{◌≡◌, ◌++◌, take}
use Rattle.std.specs.List.{flat_map}
use Rattle.std.specs.Prelude.{codes}
use Rattle.pq_schedule.specs.Values.{two_digits}
use Rattle.pq_schedule.proofs.numbers.write_pairs.Given as goal

-- what is after the first so far
abbrev pub invariant-loop-byte : goal.invariant-loop-byte
invariant-loop-byte l = l.into.items ≡ l.initial.into.items ++ flat_map (λ n. (codes ":") ++ two_digits n) (take l.byte-index l.rest)
