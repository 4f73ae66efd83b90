use Rattle.pq_store.specs.Store.{Keeps}
use Rattle.pq_forward.proofs.Floods.{IsFloodBehind}
use Rattle.pq_forward.proofs.flood.flood.Given as goal

-- the tree floods at the switches after those that are left
abbrev pub invariant-loop-switch : goal.invariant-loop-switch
invariant-loop-switch l = record {
  flood : IsFloodBehind l.switch-iterator.iter.rest.now l.topology.switches l.store l.id;
  keeps : Keeps l.fn.store l.store;
}
