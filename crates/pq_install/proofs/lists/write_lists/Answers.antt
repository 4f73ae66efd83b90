use Rattle.std.proofs.Common.{◌∙◌}
use Rattle.pq_lists.proofs.Holding.{all_map_read}
use Rattle.pq_model.specs.Install.{IsLawfulList, list_bytes}
use Rattle.pq_flowmod.proofs.BucketSteps.{flat_map-map_more}
use Rattle.pq_install.proofs.lists.write_lists.Goals as goal

pub write_list-requires : goal.write_list-requires
write_list-requires c =
    rw c.deref.ensures.value
    (all_map_read c.args.lists.now (λ ms. ms.items) IsLawfulList _ c.list-item.result c.requires c.loop-list-test.true c.list-item.is)

pub loop-list-preserved : goal.loop-list-preserved
loop-list-preserved c =
    let joined = rw (c.loop-list.invariant, c.deref.ensures.value) at c.in_ok-write_list.ensures in
    joined ∙ flat_map-map_more c.args.lists.now (λ ms. ms.items) list_bytes _ c.list-item.result c.args.into.now.items c.loop-list-test.true c.list-item.is
