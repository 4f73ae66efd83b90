use Rattle.std.proofs.Common.{◌≡◌, ◌++◌, ◌∷◌, [], take}
use Rattle.std.specs.List.{flat_map}
use Rattle.std.specs.Prelude.{decimal}
use Rattle.pq_schedule.proofs.numbers.write_decimals.Given as goal

-- what is after the first so far
abbrev pub invariant-loop-number : goal.invariant-loop-number
invariant-loop-number l = l.into.items ≡ l.initial.into.items ++ flat_map (λ n. (l.separator ∷ []) ++ decimal n) (take l.number-index l.rest)
