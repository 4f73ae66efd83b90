use Rattle.std.proofs.Common.{arith}
use Rattle.pq_term.proofs.Digits.{value_at_end, too_big}
use Rattle.pq_term.proofs.numbers.value_of.Goals as goal

-- a value that is too big stays too big
pub returns-in_default : goal.returns-in_default
returns-in_default c = too_big _ _ _ c.loop-digit.digit-index c.requires c.loop-digit-test.true c.loop-digit.invariant.left
    (λ fits. c.in_default.ensures (omega (arith, fits, c.digit_value.ensures)))

-- no digit is left
pub returns : goal.returns
returns c =
    let done = value_at_end _ _ _ c.loop-digit.digit-index c.loop-digit-test.false c.loop-digit.invariant.left in
    (omega (arith, done, c.loop-digit.invariant.fits), done)
