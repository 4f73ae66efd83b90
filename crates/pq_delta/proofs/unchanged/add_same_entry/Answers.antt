use Rattle.std.proofs.Common.{Some, ap, sym, ◌∙◌}
use Rattle.pq_model.specs.SwitchMachine.{entry_of}
use Rattle.pq_delta.specs.Exact.{entry_exact}
use Rattle.pq_delta.proofs.unchanged.add_same_entry.Goals as goal

pub returns-in-Some-Some : goal.returns-in-Some-Some
returns-in-Some-Some c same =
    let here = c.in-Some-Some in
    here.ensures ∙ ap Some (entry_exact (entry_of here.one.now) (entry_of here.other.now) (sym c.same_entry.ensures ∙ same)) ∙ sym here.ensures'
