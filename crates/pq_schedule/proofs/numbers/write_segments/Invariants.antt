use Rattle.std.proofs.Common.{◌≡◌, ◌++◌, false, take}
use Rattle.std.specs.List.{flat_map}
use Rattle.std.specs.Prelude.{codes}
use Rattle.std.specs.Fmt.{digits}
use Rattle.pq_schedule.proofs.numbers.write_segments.Given as goal

-- what is after the first so far
abbrev pub invariant-loop-segment : goal.invariant-loop-segment
invariant-loop-segment l = l.into.items ≡ l.initial.into.items ++ flat_map (λ n. (codes ":") ++ digits 16 false n) (take l.segment-index l.rest)
