use Rattle.std.proofs.Common.{◌≡◌, ◌++◌, take, map}
use Rattle.std.specs.List.{flat_map}
use Rattle.pq_model.specs.Spelling.{bucket_bytes}
use Rattle.pq_flowmod.proofs.group.write_buckets.Given as goal

-- the buckets so far are appended
abbrev pub invariant-loop-bucket : goal.invariant-loop-bucket
invariant-loop-bucket l = l.into.items ≡ l.initial.into.items ++ flat_map bucket_bytes (map (λ b. b.items) (take l.bucket-index l.buckets))
