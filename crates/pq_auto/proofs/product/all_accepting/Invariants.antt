use Rattle.std.proofs.Common.{◌≡◌, ◌++◌, drop, map}
use Rattle.pq_auto.specs.Tables.{accepting, lists}
use Rattle.pq_auto.proofs.product.all_accepting.Given as goal

abbrev pub invariant-loop-state : goal.invariant-loop-state
invariant-loop-state l = map (λ places. places.items) l.all.items ++ map (accepting l.tables) (lists (drop l.state-index l.states))
    ≡ map (accepting l.tables) (lists l.states)
