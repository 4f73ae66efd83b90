use Rattle.std.proofs.Common.{◌-◌, ◌≤◌, length}
use Rattle.pq_store.specs.Moves.{Moves}
use Rattle.pq_store.proofs.store.Store.moved.Given as goal

abbrev pub invariant-loop-moved : goal.invariant-loop-moved
invariant-loop-moved g l = Moves l.self l.kept l.moved.items l.compact × (length l.moved.items ≤ length l.kept)

abbrev pub decreases-loop-moved : goal.decreases-loop-moved
decreases-loop-moved g l = length l.kept - length l.moved.items
