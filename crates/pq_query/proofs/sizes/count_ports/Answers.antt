use Rattle.pq_query.proofs.Ports.{one_more_switch}
use Rattle.pq_query.proofs.sizes.count_ports.Goals as goal

pub loop-rest-preserved : goal.loop-rest-preserved
loop-rest-preserved c =
    one_more_switch c.loop-rest.rest.now c.switch-item.result c.loop-rest.count c.count_new-count.result _ c.in-len1-up.len_at_least
    c.switch-item.is c.loop-rest.invariant.lawful c.loop-rest.invariant.fits c.count_new-count.ensures c.loop-rest.invariant.count
