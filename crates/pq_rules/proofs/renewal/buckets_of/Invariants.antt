use Rattle.std.proofs.Common.{◌≡◌, ◌++◌, drop, map}
use Rattle.pq_layout.specs.Actions.{buckets_of}
use Rattle.pq_rules.proofs.renewal.buckets_of.Given as goal

abbrev pub invariant-loop-copy : goal.invariant-loop-copy
invariant-loop-copy l = map (λ b. b.items) l.buckets.items ++ buckets_of (drop l.copy-index l.copies) ≡ buckets_of l.copies
