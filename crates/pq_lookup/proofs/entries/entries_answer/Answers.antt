use Rattle.pq_lookup.proofs.Covering.{entries-answer, entries-pass_over}
use Rattle.pq_lookup.proofs.entries.entries_answer.Goals as goal

pub returns : goal.returns
returns g c = record { answer = entries-answer; pass_over = entries-pass_over }
