use Rattle.pq_replay.proofs.Replayable.{not_damaged, no_syntax_fault, not_too_many}
use Rattle.pq_replay.proofs.laws.replayable_bytes_have_no_fault.Goals as goal

pub returns : goal.returns
returns c = record { damage = not_damaged; syntax = no_syntax_fault; full = not_too_many }
