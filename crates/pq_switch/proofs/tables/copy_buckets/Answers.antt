use Rattle.std.proofs.Common.{All}
use Rattle.pq_lists.proofs.Holding.{all_map_read}
use Rattle.pq_model.specs.Lawful.{IsLawfulAction}
use Rattle.pq_switch.proofs.tables.copy_buckets.Goals as goal

pub copy-requires : goal.copy-requires
copy-requires c = rw c.deref.ensures.value
    (all_map_read c.args.buckets.now (λ b. b.items) (All IsLawfulAction) _ c.bucket-item.result c.requires c.loop-bucket-test.true
    c.bucket-item.is)
