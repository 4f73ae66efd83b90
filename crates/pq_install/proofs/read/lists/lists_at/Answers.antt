use Rattle.std.proofs.Common.{arith, length-append}
use Rattle.std.proofs.lemmas.List.{length-map, map_push}
use Rattle.std.proofs.lemmas.Result.{err_from_is_err_and}
use Rattle.pq_install.proofs.MessageLists.{lists_fail, more_lists}
use Rattle.pq_install.proofs.read.lists.lists_at.Goals as goal

-- the messages to a switch fail, and they are wanted
pub returns-in_err-list-clause-err : goal.returns-in_err-list-clause-err
returns-in_err-list-clause-err c =
    let p = err_from_is_err_and c.from_residual.result c.from_residual.ensures.1 in
    rw (p.1, p.2) (lists_fail c.args.version c.args.bytes.now _ c.loop.rest.now c.args.count c.in_err-list.field-0.0 c.loop.invariant.1
    (rw (length-map c.loop.lists.items (λ ms. ms.items)) (omega (arith, c.loop.invariant.0, c.loop-test.true)))
    c.in_err-list.ensures.err)

pub loop-preserved : goal.loop-preserved
loop-preserved c =
    let more = more_lists c.args.version c.args.bytes.now _ c.loop.rest.now c.in_ok-list.list.items c.in_ok-list.after.now
    c.loop.invariant.1 c.in_ok-list.ensures.ok in
    rw c.in_ok-push.ensures.items (grind (arith, length-append, c.loop.invariant.0), rw (map_push (λ ms. ms.items) c.loop.lists.items c.in_ok-list.list) more)
