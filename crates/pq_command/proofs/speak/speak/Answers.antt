use Rattle.std.proofs.Common.{◌≡◌}
use Rattle.pq_command.proofs.Turns.{no-refusal}
use Rattle.pq_command.proofs.speak.speak.Goals as goal

pub returns-in-Ok-clause-answer : goal.returns-in-Ok-clause-answer
returns-in-Ok-clause-answer g c =
    let begun = c.in-Ok.ensures.under_way in
    c.go_on.ensures.answer c.args.datapath (g.S.Source.left c.args.source.now) (g.K.Sink.put c.args.sink.now) begun.0 begun.1 begun.2

pub returns-in-Ok-clause-refusal : goal.returns-in-Ok-clause-refusal
returns-in-Ok-clause-refusal g c = no-refusal c.go_on.result (c.go_on.new.sink ≡ c.args.sink.now) c.go_on.ensures.in_turns
