use Rattle.pq_join.proofs.Dropping.{product_drops}
use Rattle.pq_join.proofs.trees.with_drops.Goals as goal

pub returns : goal.returns
returns c =
    product_drops _ (λ v s ds h. let first = h.2 in let second = h.3 in let answer = h.4 in
    cc) c.args.departures.now c.args.node c.args.seen.now c.args.dropped c.product.new.into c.in_ok-id.id
    c.in_ok-id.ensures.product
