use Rattle.std.proofs.Common.{◌≡◌, ◌<◌, ◌++◌, [], drop, get_or, length}
use Rattle.pq_query.specs.Labels.{one_from_each}
use Rattle.pq_query.proofs.listing.label_at.Given as goal

-- the values so far begin the label, and the place among the lists that are left gives its rest
abbrev pub invariant-loop-list : goal.invariant-loop-list
invariant-loop-list l = record {
  block : l.block ≡ length (one_from_each (drop l.list-index l.lists));
  within : l.place < l.block;
  label : l.label.items ++ get_or (one_from_each (drop l.list-index l.lists)) l.place [] ≡ get_or (one_from_each l.lists) l.number [];
}
