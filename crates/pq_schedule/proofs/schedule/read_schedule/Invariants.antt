use Rattle.std.proofs.Common.{length}
use Rattle.pq_schedule.proofs.Readings.{IsReadBefore}
use Rattle.pq_schedule.proofs.schedule.read_schedule.Given as goal

-- the text up to the rest is these events
abbrev pub invariant-loop-rest : goal.invariant-loop-rest
invariant-loop-rest l = IsReadBefore l.text l.events.items l.rest

-- each turn takes a line
abbrev pub decreases-loop-rest : goal.decreases-loop-rest
decreases-loop-rest l = length l.rest
