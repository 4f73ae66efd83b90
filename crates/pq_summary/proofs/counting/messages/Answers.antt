use Rattle.std.proofs.Common.{length, arith}
use Rattle.pq_summary.proofs.Counted.{within_whole}
use Rattle.pq_summary.proofs.counting.messages.Goals as goal

pub overflow_add-total : goal.overflow_add-total
overflow_add-total c =
    let within = within_whole length (λ ms. ms.items) c.args.lists.now c.loop-messages.messages-index c.messages-item.result
    c.messages-item.is c.loop-messages-test.true in
    let here = c.len-total.ensures in
    let so_far = c.loop-messages.invariant in
    omega (arith, within, here, so_far, c.requires)
