use Rattle.std.proofs.Common.{◌≡◌, drop}
use Rattle.pq_query.specs.Resolved.{is_grouped}
use Rattle.pq_query.proofs.groups.is_grouped.Given as goal

-- the groups that are left tell the answer
abbrev pub invariant-loop-group : goal.invariant-loop-group
invariant-loop-group l = is_grouped l.field (drop l.group-index l.groups) ≡ is_grouped l.field l.groups
