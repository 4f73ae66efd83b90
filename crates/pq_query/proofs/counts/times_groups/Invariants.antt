use Rattle.std.proofs.Common.{◌≡◌, drop}
use Rattle.pq_query.specs.Counts.{on_groups, times}
use Rattle.pq_query.proofs.counts.times_groups.Given as goal

-- the groups that are left make the whole of the product
abbrev pub invariant-loop-group : goal.invariant-loop-group
invariant-loop-group l = on_groups (times l.sizes) (drop l.group-index l.groups) l.product ≡ on_groups (times l.sizes) l.groups l.count
