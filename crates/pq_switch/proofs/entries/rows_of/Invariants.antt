use Rattle.std.proofs.Common.{◌≡◌, ◌++◌}
use Rattle.std.specs.Map.{values_of}
use Rattle.pq_switch.proofs.entries.rows_of.Given as goal

-- the rows so far and what is left are all
abbrev pub invariant-loop-slot : goal.invariant-loop-slot
invariant-loop-slot l = l.rows.items ++ l.slot-iterator ≡ values_of l.fn.slots.entries
