use Rattle.std.proofs.Common.{◌∙◌, sym}
use Rattle.pq_command.proofs.top.run.Goals as goal
use Rattle.pq_command.proofs.Complete.{completed}

pub returns-in-Some-clause-completes : goal.returns-in-Some-clause-completes
returns-in-Some-clause-completes g c =
    let e = c.answer.ensures in
    λ command named no_read no_write.
    completed _ command (sym c.in-Some.is ∙ c.of_words.ensures.value
    ∙ named) _ _ _ _ _ _ _ _ no_read no_write c.answer.result e.answer e.read_faults e.write_faults
