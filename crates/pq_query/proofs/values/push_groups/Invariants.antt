use Rattle.std.proofs.Common.{◌≡◌, drop}
use Rattle.pq_query.specs.Counts.{on_groups, with_values}
use Rattle.pq_query.proofs.values.push_groups.Given as goal

-- the groups that are left make the whole
abbrev pub invariant-loop-group : goal.invariant-loop-group
invariant-loop-group l = on_groups (with_values l.datapaths l.ports) (drop l.group-index l.groups) l.into.items
    ≡ on_groups (with_values l.datapaths l.ports) l.groups l.initial.into.items
