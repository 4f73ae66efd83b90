use Rattle.std.proofs.Common.{◌≡◌, ◌++◌, take, drop, map}
use Rattle.pq_sum.specs.Places.{renamed}
use Rattle.pq_sum.proofs.slots.rename.Given as goal

-- those before this one are renamed
abbrev pub invariant-loop-each : goal.invariant-loop-each
invariant-loop-each l = l.slots ≡ map (renamed l.last l.slot) (take l.each-index l.initial.slots) ++ drop l.each-index l.initial.slots
