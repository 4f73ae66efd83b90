use Rattle.std.proofs.Common.{sym, subst}
use Rattle.pq_compile.specs.Compiled.{IsCompileFault}
use Rattle.pq_compile.specs.Documents.{document_tree}
use Rattle.pq_compile.specs.Prepared.{parts_in}
use Rattle.pq_compile.proofs.InstallLemmas.{is_within, rules_cause}
use Rattle.pq_engine.proofs.opening.first_kept.Goals as goal

pub installed-requires-clause-policy : goal.installed-requires-clause-policy
installed-requires-clause-policy g c =
    let d = document_tree c.args.document.now in
    c.total.ensures d.topology c.parts_sum.new.store (parts_in d) c.in-Ok.ensures

pub returns-in-Err-installed-clause-cause : goal.returns-in-Err-installed-clause-cause
returns-in-Err-installed-clause-cause g c =
    let d = document_tree c.args.document.now in
    subst (IsCompileFault d) (sym c.of_rules.ensures)
    (rules_cause d (is_within d c.args.told.instances.items c.args.told.letters c.args.told.classes c.requires.values c.requires.told)
    c.in-Err-installed.fault c.in-Err-installed.ensures.cause)

pub returns-in-Ok-copied-clause-kept : goal.returns-in-Ok-copied-clause-kept
returns-in-Ok-copied-clause-kept g c =
    let d = document_tree c.args.document.now in
    record {
      compilable = c.requires.compilable;
      within = record {
        within = is_within d c.args.told.instances.items c.args.told.letters c.args.told.classes c.requires.values c.requires.told;
        tables = c.in-Ok-installed.ensures.complete;
      };
      installed = c.in-Ok-installed.ensures.installed;
      summed = c.in-Ok-copied.ensures.same d.topology (parts_in d) c.in-Ok.ensures;
      classified = c.requires.told;
    }
