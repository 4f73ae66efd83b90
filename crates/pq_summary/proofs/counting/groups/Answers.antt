use Rattle.std.proofs.Common.{◌∙◌, ap, arith}
use Rattle.pq_inspect.specs.Inspection.{count, is_group_add}
use Rattle.pq_summary.proofs.Counted.{within_whole}
use Rattle.pq_summary.proofs.counting.groups.Goals as goal

pub overflow_add-total : goal.overflow_add-total
overflow_add-total c =
    let within = within_whole (count is_group_add) (λ ms. ms.items) c.args.lists.now c.loop-messages.messages-index c.messages-item.result
    c.messages-item.is c.loop-messages-test.true in
    let here = c.groups_in-total.ensures ∙ ap (count is_group_add) c.deref.ensures.value in
    let so_far = c.loop-messages.invariant in
    omega (arith, within, here, so_far, c.requires)
