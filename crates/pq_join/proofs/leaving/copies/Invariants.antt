use Rattle.std.proofs.Common.{◌≡◌, take}
use Rattle.pq_join.specs.Leaving.{copies_at}
use Rattle.pq_join.proofs.leaving.copies.Given as goal

-- the copies of the departures so far
abbrev pub invariant-loop-departure : goal.invariant-loop-departure
invariant-loop-departure l = l.list.items ≡ copies_at l.classes l.class (take l.departure-index l.departures)
