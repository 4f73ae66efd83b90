use Rattle.pq_sum.proofs.Summed.{is_opened_at}
use Rattle.pq_sum.proofs.sum.Sum.open.Goals as goal

pub returns-clause-sum : goal.returns-clause-sum
returns-clause-sum g c =
    is_opened_at c.args.store.now c.opened.new.store c.args.parts.now c.in_ok-cells.cells.items c.in_ok-slots.slots.items
    c.in_ok-slots.ensures c.in_ok-cells.ensures.sum
