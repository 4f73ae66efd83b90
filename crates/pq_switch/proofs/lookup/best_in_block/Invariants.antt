use Rattle.std.proofs.Common.{◌≡◌, List}
use Rattle.std.specs.Map.{values_of}
use Rattle.std.specs.Option.{option_copied}
use Rattle.pq_switch.specs.Choice.{IsBest, IsIn}
use Rattle.pq_switch.specs.declared.entry.Slot.{Slot}
use Rattle.pq_switch.proofs.Scan.{IsBestBefore, left}
use Rattle.pq_switch.proofs.lookup.best_in_block.Given as goal

-- of the entries before the bound the best is found
abbrev pub invariant-shapes : goal.invariant-shapes
invariant-shapes l = record {
  block : l.from.block ≡ l.block;
  best : (start : List Slot) → ((t : Slot) → IsIn t start → IsIn t (values_of l.slots.entries))
      → IsBest l.block.table l.x start (option_copied l.initial.best)
      → IsBestBefore l.block.table l.x l.slots.entries start l.block l.from (option_copied l.best);
}

-- how many entries are not before it
abbrev pub decreases-shapes : goal.decreases-shapes
decreases-shapes l = left l.from l.slots.entries
