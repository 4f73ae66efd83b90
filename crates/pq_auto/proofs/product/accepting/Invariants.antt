use Rattle.std.proofs.Common.{◌≡◌, ◌++◌, drop}
use Rattle.pq_auto.specs.Tables.{accepting, accepting_from}
use Rattle.pq_auto.proofs.product.accepting.Given as goal

abbrev pub invariant-loop-place : goal.invariant-loop-place
invariant-loop-place l = l.places.items ++ accepting_from l.place (drop l.place l.tables) l.state ≡ accepting l.tables l.state
