use Rattle.std.proofs.Common.{arith, sym, ◌∙◌, All, length-append}
use Rattle.pq_model.specs.Install.{pair_bytes}
use Rattle.pq_install.specs.Rows.{HasNumbers}
use Rattle.pq_install.proofs.Front.{longer_goes_on}
use Rattle.pq_install.proofs.RowUnits.{unique_instance}
use Rattle.pq_install.proofs.UnitLists.{all_more, one_more_unit}
use Rattle.pq_install.proofs.read.report.pairs_at.Goals as goal

-- the instances so far are fewer than asked for, and no further one is after them
pub returns-in_default : goal.returns-in_default
returns-in_default c pairs more counted e =
    let so_far = c.loop.invariant in
    let none = rw c.in_default.is at c.in_ok-pair.ensures in
    longer_goes_on HasNumbers pair_bytes unique_instance c.loop.pairs.items pairs c.loop.rest.now more so_far.2 counted.1
    (omega (arith, so_far.1, counted.0, c.loop-test.true)) (sym so_far.0 ∙ e) none

pub loop-preserved : goal.loop-preserved
loop-preserved c =
    let so_far = c.loop.invariant in
    let next = rw c.in-Some.is at c.in_ok-pair.ensures in
    let all = (all_more HasNumbers c.loop.pairs.items c.in-Some.pair).1 (so_far.2, next.0) in
    let more = one_more_unit (All HasNumbers) pair_bytes c.args.bytes.now c.loop.pairs.items c.loop.rest.now
    (so_far.2, so_far.0) c.in-Some.pair c.in-Some.after.now (all, next.1) in
    rw c.in_ok-push.ensures.items (more.1, grind (arith, length-append, so_far.1), more.0)
