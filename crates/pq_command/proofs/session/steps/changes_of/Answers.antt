use Rattle.std.proofs.Common.{ℕ, List, subst, sym}
use Rattle.std.proofs.lemmas.List.Elements.{All-from_recursion}
use Rattle.pq_model.specs.declared.message.Message.{Message}
use Rattle.pq_model.specs.Install.{IsLawfulList}
use Rattle.pq_delta.specs.Delta.{AreShort, delta}
use Rattle.pq_command.specs.Sessions.{AreLawfulChanges}
use Rattle.pq_command.proofs.session.steps.changes_of.Goals as goal

pub returns-clause-lawful : goal.returns-clause-lawful
returns-clause-lawful c =
    let old = c.args.engine.now in
    let new = c.counted.new.engine in
    let same = c.in-Ok.ensures.delta in
    let lawful = c.deltas_of_documents_are_lawful.ensures old.document new.document old.install new.install c.install.ensures.installed
    c.install-2.ensures.installed
    (subst AreShort same c.in-Ok.ensures.few) in
    subst AreLawfulChanges (sym same) (All-from_recursion {X = ℕ × List Message} (λ p. IsLawfulList p.1) (delta old.install new.install) lawful)
