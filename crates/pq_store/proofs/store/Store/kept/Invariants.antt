use Rattle.std.proofs.Common.{◌≤◌, length}
use Rattle.pq_store.specs.Moves.{Marks}
use Rattle.pq_store.proofs.store.Store.kept.Given as goal

abbrev pub invariant-loop-place : goal.invariant-loop-place
invariant-loop-place g l = Marks l.self l.roots l.place l.kept.items × (l.place ≤ length l.self)

abbrev pub decreases-loop-place : goal.decreases-loop-place
decreases-loop-place g l = l.place
