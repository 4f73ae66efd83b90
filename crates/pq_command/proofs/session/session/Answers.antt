use Rattle.std.proofs.Common.{◌≡◌}
use Rattle.pq_command.proofs.Endings.{no_refusal}
use Rattle.pq_command.proofs.session.session.Goals as goal

pub returns-clause-answer : goal.returns-clause-answer
returns-clause-answer g c = c.go_on.ensures.answer (g.S.Source.left c.args.source.now) (g.K.Sink.put c.args.sink.now) c.in-Ok.ensures.going_on

pub returns-clause-refusal : goal.returns-clause-refusal
returns-clause-refusal g c = no_refusal c.go_on.result (c.go_on.new.sink ≡ c.args.sink.now) c.go_on.ensures.in_turns
