use Rattle.std.proofs.Common.{subst, sym}
use Rattle.pq_compile.specs.Documents.{Spells}
use Rattle.pq_command.proofs.session.opening.engine_of.Goals as goal

pub returns-in-Ok-open-clause-spelled : goal.returns-in-Ok-open-clause-spelled
returns-in-Ok-open-clause-spelled c = subst (Spells c.args.text.now) (sym c.in-Ok-open.ensures.document) c.in-Ok.ensures.spells
