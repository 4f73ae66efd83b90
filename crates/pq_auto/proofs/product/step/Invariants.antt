use Rattle.std.proofs.Common.{◌≡◌, ◌++◌, drop, length}
use Rattle.pq_auto.specs.Tables.{steps_from, steps}
use Rattle.pq_auto.proofs.product.step.Given as goal

abbrev pub invariant-loop-table : goal.invariant-loop-table
invariant-loop-table l = l.next.items ++ steps_from (length l.next.items) (drop l.table-index l.tables) l.state l.letter ≡ steps l.tables l.state l.letter
