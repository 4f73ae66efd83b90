use Rattle.std.proofs.Common.{◌≡◌, ◌++◌, drop, map}
use Rattle.pq_rules.specs.Grouping.{in_bucket}
use Rattle.pq_rules.proofs.grouping.add_group.Given as goal

abbrev pub invariant-loop-copy : goal.invariant-loop-copy
invariant-loop-copy l = l.list.items ++ map in_bucket (drop l.copy-index l.copies) ≡ map in_bucket l.copies
