use Rattle.std.proofs.Common.{◌≡◌, map, take}
use Rattle.pq_switch.proofs.tables.copy_buckets.Given as goal

-- the buckets so far are copied
abbrev pub invariant-loop-bucket : goal.invariant-loop-bucket
invariant-loop-bucket l = l.copied.items ≡ map (λ b. b.items) (take l.bucket-index l.buckets)
