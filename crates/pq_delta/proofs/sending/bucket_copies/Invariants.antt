use Rattle.std.proofs.Common.{◌≡◌, ◌++◌, drop, map}
use Rattle.pq_delta.proofs.sending.bucket_copies.Given as goal

abbrev pub invariant-loop-bucket : goal.invariant-loop-bucket
invariant-loop-bucket l = map (λ b. b.items) l.all.items ++ map (λ b. b.items) (drop l.bucket-index l.buckets) ≡ map (λ b. b.items) l.buckets
