use Rattle.std.proofs.Common.{ℕ, ◌++◌, ◌-◌, List}
use Rattle.pq_auto.specs.Search.{AreNumbers, targets}
use Rattle.pq_auto.specs.Tables.{lists, steps}
use Rattle.pq_auto.proofs.product.expand.Given as goal

abbrev pub invariant-loop-letter : goal.invariant-loop-letter
invariant-loop-letter l = (more : List ℕ) (new : List (List ℕ)) →
    AreNumbers (lists l.states.keys) (targets (steps l.tables) l.state l.letter (l.letters - l.letter)) more new →
    AreNumbers (lists l.fn.states.keys) (targets (steps l.tables) l.state 0 l.letters) (l.row.items ++ more) new
