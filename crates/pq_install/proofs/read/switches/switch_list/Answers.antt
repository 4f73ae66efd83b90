use Rattle.std.proofs.Common.{arith}
use Rattle.std.proofs.lemmas.Result.{err_from_is_err_and}
use Rattle.pq_model.specs.Install.{switch_bytes}
use Rattle.pq_install.specs.Switches.{AreReadSwitches}
use Rattle.pq_install.proofs.UnitLists.{list_fails}
use Rattle.pq_install.proofs.read.switches.switch_list.Goals as goal

-- no switch that may follow is there, and one is wanted
pub returns-in_err-switch-clause-err : goal.returns-in_err-switch-clause-err
returns-in_err-switch-clause-err c =
    let p = err_from_is_err_and c.from_residual.result c.from_residual.ensures.1 in
    let fails = rw c.deref.ensures.value at c.in_err-switch.ensures.err in
    rw (p.1, p.2) (list_fails AreReadSwitches switch_bytes c.args.bytes.now c.loop.switches.items c.loop.rest.now c.loop.invariant.1
    c.args.count c.in_err-switch.field-0.0 (omega (arith, c.loop.invariant.0, c.loop-test.true)) fails)
