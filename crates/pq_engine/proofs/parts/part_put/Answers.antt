use Rattle.std.proofs.Common.{sym, subst}
use Rattle.pq_compile.specs.Compiled.{IsCompileFault}
use Rattle.pq_compile.specs.Documents.{document_tree}
use Rattle.pq_engine.proofs.EngineLemmas.{is_before, prepare_cause}
use Rattle.pq_engine.proofs.parts.part_put.Goals as goal

pub returns-in-Err-clause-cause : goal.returns-in-Err-clause-cause
returns-in-Err-clause-cause g c =
    let d = document_tree c.args.document.now in
    subst (IsCompileFault d) (sym c.of_prepare.ensures) (prepare_cause d c.in-Err.fault c.in-Err.ensures.cause)

pub summed-requires-clause-before : goal.summed-requires-clause-before
summed-requires-clause-before g c =
    let made = c.in-Ok-with_part.made in
    is_before (document_tree c.args.document.now) c.args.kept.now c.requires.was made.0 made.2 c.in-Ok-with_part.ensures.before
