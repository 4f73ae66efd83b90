use Rattle.std.proofs.Common.{◌≡◌}
use Rattle.std.specs.Map.{values_of}
use Rattle.std.specs.Option.{option_copied}
use Rattle.pq_switch.specs.Choice.{best_of}
use Rattle.pq_switch.specs.Ranges.{range_of}
use Rattle.pq_switch.proofs.Falling.{Falls}
use Rattle.pq_switch.proofs.lookup.best_in.Given as goal

-- the best so far, with what is left of the range, is the best of all; and in what is left the priorities fall
abbrev pub invariant-loop-slot : goal.invariant-loop-slot
invariant-loop-slot l = record {
  best : best_of l.table l.x (values_of l.slot-iterator) (option_copied l.best)
      ≡ best_of l.table l.x (range_of l.table l.fn.pattern l.slots.entries) (option_copied l.initial.best);
  falls : Falls (values_of l.slot-iterator);
}
