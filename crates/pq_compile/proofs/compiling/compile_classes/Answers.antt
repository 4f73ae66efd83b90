use Rattle.std.proofs.Common.{sym, subst}
use Rattle.pq_compile.specs.Compiled.{IsCompileFault}
use Rattle.pq_compile.specs.Documents.{document_tree}
use Rattle.pq_compile.proofs.InstallLemmas.{rules_cause}
use Rattle.pq_compile.proofs.compiling.compile_classes.Goals as goal

pub returns-clause-cause : goal.returns-clause-cause
returns-clause-cause g c =
    let d = document_tree c.args.document.now in
    subst (IsCompileFault d) (sym c.of_rules.ensures) (rules_cause d c.in-Ok.ensures.within c.in-Err-installed.fault c.in-Err-installed.ensures.cause)
