use Rattle.std.proofs.Common.{◌≡◌, length}
use Rattle.pq_switch.proofs.shelves.empty_shelves.Given as goal

abbrev pub invariant-loop-made : goal.invariant-loop-made
invariant-loop-made l = length l.shelves.items ≡ l._made
