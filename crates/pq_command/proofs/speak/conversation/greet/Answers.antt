use Rattle.std.proofs.Common.{◌∙◌}
use Rattle.pq_command.specs.Speaks.{session_of}
use Rattle.pq_command.proofs.Turns.{first-ends, first-said, hello-fails}
use Rattle.pq_command.proofs.speak.conversation.greet.Goals as goal

pub returns-in-Err-say-clause-err : goal.returns-in-Err-say-clause-err
returns-in-Err-say-clause-err g c =
    hello-fails (session_of c.args.datapath c.args.messages.items) _ c.args.first.now c.deref.result.now (g.K.Sink.put c.args.sink.now)
    (g.K.Sink.put c.say.new.sink)
    c.in-Err-say.outcome (c.deref.ensures.value ∙ c.in-Ok.ensures.hello) c.in-Err-say.ensures.err c.in-Err-say.ensures.part

pub returns-in-Ok-hear-clause-put : goal.returns-in-Ok-hear-clause-put
returns-in-Ok-hear-clause-put g c =
    first-said (session_of c.args.datapath c.args.messages.items) c.in-Ok.opened.0 c.args.first.now c.deref.result.now
    (g.K.Sink.put c.args.sink.now) (g.K.Sink.put c.say.new.sink) (g.K.Sink.put c.hear.new.sink)
    (c.deref.ensures.value ∙ c.in-Ok.ensures.hello) c.in-Ok.ensures.speaker c.in-Ok-say.ensures.whole c.in-Ok-hear.ensures.put

pub returns-in-Err-hear-clause-err : goal.returns-in-Err-hear-clause-err
returns-in-Err-hear-clause-err g c =
    first-ends (session_of c.args.datapath c.args.messages.items) c.in-Ok.opened.0 c.args.first.now c.deref.result.now
    (g.K.Sink.put c.args.sink.now) (g.K.Sink.put c.say.new.sink) (g.K.Sink.put c.hear.new.sink) c.in-Err-hear.outcome
    (c.deref.ensures.value ∙ c.in-Ok.ensures.hello) c.in-Ok.ensures.speaker c.in-Ok-say.ensures.whole c.in-Err-hear.ensures.err
