use Rattle.std.proofs.Common.{arith, refl}
use Rattle.std.proofs.lemmas.Result.{err_from_is_err_and}
use Rattle.pq_model.specs.Install.{name_bytes}
use Rattle.pq_install.specs.Names.{AreReadNames}
use Rattle.pq_install.proofs.NameUnits.{no_names}
use Rattle.pq_install.proofs.UnitLists.{list_fails}
use Rattle.pq_install.proofs.read.names.name_list.Goals as goal

-- no name that may follow is there, and one is wanted
pub returns-in_err-name-clause-err : goal.returns-in_err-name-clause-err
returns-in_err-name-clause-err c =
    let p = err_from_is_err_and c.from_residual.result c.from_residual.ensures.1 in
    let fails = rw c.deref.ensures.value at c.in_err-name.ensures.err in
    rw (p.1, p.2) (list_fails AreReadNames name_bytes c.args.bytes.now c.loop.names.items c.loop.rest.now c.loop.invariant.1 c.args.count
    c.in_err-name.field-0.0 (omega (arith, c.loop.invariant.0, c.loop-test.true)) fails)

pub loop-init : goal.loop-init
loop-init c = rw c.new-names.ensures.items (refl, (no_names, refl))
