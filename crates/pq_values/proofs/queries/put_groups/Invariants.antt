use Rattle.std.proofs.Common.{◌≡◌, drop}
use Rattle.pq_values.specs.Known.{with_each, with_group}
use Rattle.pq_values.proofs.queries.put_groups.Given as goal

-- the groups that are left make the whole
abbrev pub invariant-loop-group : goal.invariant-loop-group
invariant-loop-group l = with_each with_group (drop l.group-index l.groups) l.known.keys ≡ with_each with_group l.groups l.initial.known.keys
