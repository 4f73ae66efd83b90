use Rattle.std.proofs.Common.{◌^◌, ◌-◌, length}
use Rattle.pq_auto.specs.Searched.{IsSearched}
use Rattle.pq_auto.specs.Tables.{begin, lists, steps}
use Rattle.pq_auto.proofs.product.search.Given as goal

abbrev pub invariant-states : goal.invariant-states
invariant-states l = IsSearched (steps l.tables) (begin l.tables) l.letters (lists l.states.keys) (lists l.rows.items)

abbrev pub decreases-states : goal.decreases-states
decreases-states l = 2 ^ 64 - length l.rows.items
