use Rattle.std.proofs.Common.{arith, length-append}
use Rattle.std.proofs.lemmas.Result.{err_from_is_err_and}
use Rattle.pq_install.proofs.MessageLists.{messages_fail, more_messages}
use Rattle.pq_install.proofs.read.lists.message_list.Goals as goal

-- no message is there, and one is wanted
pub returns-in_err-message-clause-err : goal.returns-in_err-message-clause-err
returns-in_err-message-clause-err c =
    let p = err_from_is_err_and c.from_residual.result c.from_residual.ensures.1 in
    rw (p.1, p.2) (messages_fail c.args.version c.args.bytes.now c.loop.messages.items c.loop.rest.now c.args.count
    c.in_err-message.field-0.0 c.loop.invariant.1 (omega (arith, c.loop.invariant.0, c.loop-test.true)) c.in_err-message.ensures.err)

pub loop-preserved : goal.loop-preserved
loop-preserved c =
    let more = more_messages c.args.version c.args.bytes.now c.loop.messages.items c.loop.rest.now c.in_ok-message.message
    c.in_ok-message.after.now c.loop.invariant.1 c.in_ok-message.ensures.ok in
    rw c.in_ok-push.ensures.items (grind (arith, length-append, c.loop.invariant.0), more)
