use Rattle.std.proofs.Common.{◌≡◌, ◌^◌, ◌<◌, drop}
use Rattle.pq_term.specs.Numbers.{value_of, value_after}
use Rattle.pq_term.proofs.numbers.value_of.Given as goal

-- the digits left complete the value
abbrev pub invariant-loop-digit : goal.invariant-loop-digit
invariant-loop-digit l = record { fits : l.value < 2 ^ 64; left : value_after l.base l.value (drop l.digit-index l.digits) ≡ value_of l.base l.digits }
