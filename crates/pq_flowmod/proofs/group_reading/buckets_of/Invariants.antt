use Rattle.std.proofs.Common.{length, map}
use Rattle.pq_model.specs.Spelling.{bucket_bytes}
use Rattle.pq_flowmod.specs.Reading.{IsReadable}
use Rattle.pq_flowmod.proofs.Leading.{Leads}
use Rattle.pq_flowmod.proofs.group_reading.buckets_of.Given as goal

-- the buckets so far lead those that the bytes spell
abbrev pub invariant-loop-rest : goal.invariant-loop-rest
invariant-loop-rest l = Leads bucket_bytes IsReadable l.bytes (map (λ b. b.items) l.buckets.items) l.rest

-- each turn takes a bucket
abbrev pub decreases-loop-rest : goal.decreases-loop-rest
decreases-loop-rest l = length l.rest
