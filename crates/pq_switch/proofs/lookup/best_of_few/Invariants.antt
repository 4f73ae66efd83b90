use Rattle.std.proofs.Common.{◌≡◌}
use Rattle.std.specs.Option.{option_copied}
use Rattle.pq_switch.specs.Choice.{best_of_few}
use Rattle.pq_switch.specs.Ranges.{onward}
use Rattle.pq_switch.proofs.lookup.best_of_few.Given as goal

-- what is left, with the best so far, gives what all gives
abbrev pub invariant-loop-place : goal.invariant-loop-place
invariant-loop-place l = best_of_few l.left l.block l.block.table l.x l.place-iterator (option_copied l.best)
    ≡ best_of_few 128 l.block l.block.table l.x (onward l.fn.from l.slots.entries) (option_copied l.initial.best)
