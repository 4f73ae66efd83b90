use Rattle.std.proofs.Common.{◌≡◌, ◌++◌, drop}
use Rattle.pq_query.specs.Instances.{under_labels}
use Rattle.pq_query.specs.Labels.{one_from_each}
use Rattle.pq_query.proofs.listing.push_instances.Given as goal

-- what is there and the labels that are left make the whole
abbrev pub invariant-loop-number : goal.invariant-loop-number
invariant-loop-number l = l.into.items ++ under_labels l.place (drop l.number (one_from_each l.lists)) ≡ l.initial.into.items
    ++ under_labels l.place (one_from_each l.lists)
