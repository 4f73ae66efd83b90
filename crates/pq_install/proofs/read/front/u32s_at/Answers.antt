use Rattle.std.proofs.Common.{arith, sym, ◌∙◌}
use Rattle.std.specs.Int.{w32, to_be_bytes}
use Rattle.pq_install.specs.Front.{IsU32}
use Rattle.pq_install.proofs.Front.{unique_u32, longer_goes_on}
use Rattle.pq_install.proofs.read.front.u32s_at.Goals as goal

-- the numbers so far are fewer than asked for, and no further one is after them
pub returns-in_default : goal.returns-in_default
returns-in_default c ns more counted e =
    let so_far = c.loop.invariant in
    longer_goes_on IsU32 (to_be_bytes w32) unique_u32 c.loop.numbers.items ns c.loop.rest.now more so_far.2 counted.1
    (omega (arith, so_far.1, counted.0, c.loop-test.true)) (sym so_far.0 ∙ e) c.in_default.ensures
