use Rattle.std.proofs.Common.{◌≡◌, ◌++◌, drop}
use Rattle.pq_auto.specs.Tables.{starts, begin}
use Rattle.pq_auto.proofs.product.begin.Given as goal

abbrev pub invariant-loop-table : goal.invariant-loop-table
invariant-loop-table l = l.state.items ++ starts (drop l._table-index l.tables) ≡ begin l.tables
