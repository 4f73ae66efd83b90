use Rattle.std.proofs.Common.{◌≡◌, drop}
use Rattle.std.specs.Option.{option_copied}
use Rattle.pq_switch.specs.Choice.{best_of}
use Rattle.pq_switch.specs.Shelves.{picked}
use Rattle.pq_switch.proofs.shelves.best_on.Given as goal

-- what is left, with the best so far, gives what all gives
abbrev pub invariant-loop-row : goal.invariant-loop-row
invariant-loop-row l = best_of l.table l.x (picked l.rows (drop l.row-index l.shelf)) (option_copied l.best)
    ≡ best_of l.table l.x (picked l.rows l.shelf) (option_copied l.initial.best)
