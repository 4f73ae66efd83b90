use Rattle.std.proofs.Common.{◌≡◌, ◌-◌, ◌≤◌, false, Some}
use Rattle.std.specs.Prelude.{slice_get}
use Rattle.pq_store.specs.Tree.Tree.{Tip}
use Rattle.pq_store.specs.Store.{Keeps}
use Rattle.pq_apply.specs.Atoms.{bits_tree}
use Rattle.pq_apply.proofs.bits.leading_bits.Given as goal

abbrev pub invariant-loop-place : goal.invariant-loop-place
invariant-loop-place l = record {
  within : l.place ≤ l.len;
  no_is : slice_get l.store l.no ≡ Some (Tip false);
  node_is : slice_get l.store l.node ≡ Some (bits_tree l.field l.value l.place (l.len - l.place));
  keeps : Keeps l.fn.store l.store;
}

abbrev pub decreases-loop-place : goal.decreases-loop-place
decreases-loop-place l = l.place
