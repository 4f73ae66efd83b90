use Rattle.pq_join.proofs.Departed.{product_appends}
use Rattle.pq_join.proofs.departures.appended.Goals as goal

pub returns-clause-appends : goal.returns-clause-appends
returns-clause-appends c =
    product_appends _ (λ v w ds h. let first = h.2 in let second = h.3 in let answer = h.4 in
    cc) c.args.into.now c.combine.new.store c.args.x c.args.y c.in_ok-id.id c.in_ok-id.ensures.product
