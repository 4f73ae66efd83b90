use Rattle.pq_store.specs.Store.{Keeps}
use Rattle.pq_join.specs.Arriving.{ArrivesTo}
use Rattle.pq_join.proofs.arriving.arriving_trees.Given as goal

-- the trees of the classes so far
abbrev pub invariant-loop-class : goal.invariant-loop-class
invariant-loop-class l = record {
  trees : ArrivesTo l.classes l.class l.seen l.root l.first l.trees.items;
  keeps : Keeps l.fn.first l.first;
}
