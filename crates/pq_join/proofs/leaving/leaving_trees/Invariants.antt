use Rattle.pq_store.specs.Store.{Keeps}
use Rattle.pq_join.specs.Leaving.{LeavesTo}
use Rattle.pq_join.proofs.leaving.leaving_trees.Given as goal

-- the trees of the classes so far
abbrev pub invariant-loop-class : goal.invariant-loop-class
invariant-loop-class l = record {
  trees : LeavesTo l.classes l.class l.departures l.node l.second l.trees.items;
  keeps : Keeps l.fn.second l.second;
}
