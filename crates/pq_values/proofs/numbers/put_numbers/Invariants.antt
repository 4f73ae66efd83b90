use Rattle.std.proofs.Common.{◌≡◌, drop}
use Rattle.pq_values.specs.Known.{with_numbers}
use Rattle.pq_values.proofs.numbers.put_numbers.Given as goal

-- the numbers that are left make the whole
abbrev pub invariant-loop-number : goal.invariant-loop-number
invariant-loop-number l = with_numbers l.field (drop l.number-index l.numbers) l.known.keys ≡ with_numbers l.field l.numbers l.initial.known.keys
