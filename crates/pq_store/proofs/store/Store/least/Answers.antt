use Rattle.pq_store.proofs.LeastCalls.{tree_there}
use Rattle.pq_store.proofs.LeastWhole.{all_least, none_marked}
use Rattle.pq_store.proofs.store.Store.least.Goals as goal

pub returns : goal.returns
returns g c =
    let t = tree_there c.args.self.now c.args.node c.requires in
    all_least c.args.self.now c.args.node t.0 t.1 c.new-found.result.items c.visit.new.found.items c.in_ok-seen.seen.items
    c.visit.new.seen.items c.zero.result c.zero.ensures c.new-found.ensures.items
    (none_marked c.in_ok-seen.seen.items c.count.result (c.in_ok-seen.ensures.items_if_clones_equal (λ y h. h))) c.in_ok-visit.ensures.visits
