use Rattle.pq_command.proofs.answer.output_of.Goals as goal

pub returns-in-State-clause-ok : goal.returns-in-State-clause-ok
returns-in-State-clause-ok c = rw c.in-State.is (rw c.deref-in-State.ensures.value at c.replayed.ensures.ok)

pub returns-in-Inspection-clause-ok : goal.returns-in-Inspection-clause-ok
returns-in-Inspection-clause-ok c = rw c.in-Inspection.is c.inspected.ensures.ok
