use Rattle.std.proofs.Common.{All, ◌∙◌}
use Rattle.pq_lists.proofs.Holding.{all_map_read}
use Rattle.pq_model.specs.Lawful.{IsLawfulAction}
use Rattle.pq_model.specs.Spelling.{bucket_bytes}
use Rattle.pq_flowmod.proofs.BucketSteps.{flat_map-map_more}
use Rattle.pq_flowmod.proofs.group.write_buckets.Goals as goal

pub write_bucket-requires : goal.write_bucket-requires
write_bucket-requires c =
    rw c.deref.ensures.value
    (all_map_read c.args.buckets.now (λ b. b.items) (All IsLawfulAction) _ c.bucket-item.result c.requires c.loop-bucket-test.true
    c.bucket-item.is)

pub loop-bucket-preserved : goal.loop-bucket-preserved
loop-bucket-preserved c =
    let next = c.in_ok-write_bucket.ensures in
    let joined = rw (c.loop-bucket.invariant, c.deref.ensures.value) at next in
    joined ∙ flat_map-map_more c.args.buckets.now (λ b. b.items) bucket_bytes _ c.bucket-item.result c.args.into.now.items
    c.loop-bucket-test.true c.bucket-item.is
