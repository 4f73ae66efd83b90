use Rattle.std.proofs.Common.{sym, subst}
use Rattle.pq_compile.specs.Compiled.{IsCompileFault}
use Rattle.pq_compile.specs.Documents.{document_tree}
use Rattle.pq_compile.specs.Prepared.{parts_in}
use Rattle.pq_engine.proofs.EngineLemmas.{prepare_cause}
use Rattle.pq_engine.proofs.queries.queries_changed.Goals as goal

pub returns-in-Err-clause-cause : goal.returns-in-Err-clause-cause
returns-in-Err-clause-cause g c =
    let d = document_tree c.args.document.now in
    subst (IsCompileFault d) (sym c.of_prepare.ensures) (prepare_cause d c.in-Err.fault c.in-Err.ensures.cause)

pub returns-in-Err-classified-clause-cause : goal.returns-in-Err-classified-clause-cause
returns-in-Err-classified-clause-cause g c =
    let d = document_tree c.args.document.now in
    subst (IsCompileFault d) (sym c.of_prepare-in-Err-classified.ensures) (prepare_cause d c.in-Err-classified.fault c.in-Err-classified.ensures.cause)

pub renew-requires-clause-policy : goal.renew-requires-clause-policy
renew-requires-clause-policy g c = c.total.ensures c.args.document.now.topology c.args.kept.now.forward
    (parts_in (document_tree c.args.document.now)) c.requires.summed
