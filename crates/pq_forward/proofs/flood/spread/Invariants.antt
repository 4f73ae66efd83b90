use Rattle.pq_store.specs.Store.{Keeps}
use Rattle.pq_forward.proofs.Spreads.{IsSpreadBehind}
use Rattle.pq_forward.proofs.flood.spread.Given as goal

-- the tree tells the ports after those that are left
abbrev pub invariant-loop-port : goal.invariant-loop-port
invariant-loop-port l = record {
  spread : IsSpreadBehind l.port-iterator.iter.rest.now l.ports l.store l.id;
  keeps : Keeps l.fn.store l.store;
}
