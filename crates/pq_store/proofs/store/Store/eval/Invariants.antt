use Rattle.std.proofs.Common.{◌≡◌, ◌<◌, length}
use Rattle.pq_store.specs.Store.{value_at}
use Rattle.pq_store.proofs.store.Store.eval.Given as goal

abbrev pub invariant-loop-leaf : goal.invariant-loop-leaf
invariant-loop-leaf g l = record {
  within : l.at < length l.self;
  value : value_at l.self l.at l.x ≡ value_at l.self l.fn.node l.x;
}

abbrev pub decreases-loop-leaf : goal.decreases-loop-leaf
decreases-loop-leaf g l = l.at
