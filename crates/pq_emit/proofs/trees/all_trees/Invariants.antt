use Rattle.std.proofs.Common.{◌≡◌, List, take}
use Rattle.std.specs.Prelude.{Some, slice_get}
use Rattle.std.specs.List.{AllZip}
use Rattle.pq_fields.specs.Writes.{Written}
use Rattle.pq_join.specs.Tags.{tagging_of}
use Rattle.pq_layout.specs.Leaves.{departing}
use Rattle.pq_store.specs.Store.{Keeps}
use Rattle.pq_store.specs.Tree.{Tree, value}
use Rattle.pq_emit.specs.Network.{AllTestPortsOf}
use Rattle.pq_emit.specs.Switches.{IsSwitchAt}
use Rattle.pq_emit.proofs.trees.all_trees.Given as goal

abbrev pub invariant-loop-switch : goal.invariant-loop-switch
invariant-loop-switch l = record {
  trees : (p : Tree (List Written)) → slice_get l.forward l.policy ≡ Some p
      → AllZip (IsSwitchAt l.topology (tagging_of l.letters l.classes) (departing l.topology (value p)) l.first l.second)
      (take l.switch-index l.switches) l.all.items;
  ports : AllTestPortsOf l.forward l.policy l.letters l.first l.second l.all.items;
  first : Keeps l.initial.first l.first;
  second : Keeps l.initial.second l.second;
}
