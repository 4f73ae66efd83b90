use Rattle.std.proofs.Common.{◌<◌, ◌≤◌, ◌^◌, ap, sym, subst, ◌∙◌}
use Rattle.std.specs.Prelude.{All}
use Rattle.pq_query.specs.Atoms.{query_atoms}
use Rattle.pq_query.specs.Instances.{IsCause, instances_of, label_sum}
use Rattle.pq_query.specs.Languages.{IsHeld}
use Rattle.pq_classes.specs.Letters.{TestsQueries}
use Rattle.pq_classes.specs.Told.{AreClasses}
use Rattle.pq_compile.specs.Prepared.{queries_in}
use Rattle.pq_query.specs.Lawful.{IsLawfulQuery}
use Rattle.pq_classes.specs.Room.{FitAsQueries}
use Rattle.pq_compile.specs.Documents.{document_tree}
use Rattle.pq_compile.proofs.Values.{lawful_queries, queries_are, query_room, within_long}
use Rattle.pq_compile.proofs.preparing.told.Goals as goal

pub query_classes-requires-clause-lawful : goal.query_classes-requires-clause-lawful
query_classes-requires-clause-lawful g c =
    let d = document_tree c.args.document.now in
    subst (All IsLawfulQuery) (sym (queries_are c.args.document.now c.deref.result.now c.deref.ensures.value)) (lawful_queries d c.requires.compilable)

pub query_classes-requires-clause-atoms : goal.query_classes-requires-clause-atoms
query_classes-requires-clause-atoms g c =
    subst (All (λ q. query_atoms q < 2 ^ 19)) (sym (queries_are c.args.document.now c.deref.result.now c.deref.ensures.value)) c.requires.compilable.atoms

pub query_classes-requires-clause-fits : goal.query_classes-requires-clause-fits
query_classes-requires-clause-fits g c =
    let d = document_tree c.args.document.now in
    subst (FitAsQueries c.args.document.now.topology) (sym (queries_are c.args.document.now c.deref.result.now c.deref.ensures.value))
    (query_room d c.requires.compilable c.requires.values)

pub returns-in-Ok-clause-told : goal.returns-in-Ok-clause-told
returns-in-Ok-clause-told g c =
    let d = document_tree c.args.document.now in
    let same = queries_are c.args.document.now c.deref.result.now c.deref.ensures.value in
    let listed = c.in-Ok.ensures.instances ∙ ap (instances_of c.args.document.now.topology) same in
    record {
      instances = listed;
      few = c.in-Ok.ensures.few;
      within = within_long c.args.document.now c.deref.result.now c.in-Ok.told.instances.items c.deref.ensures.value c.in-Ok.ensures.within;
      sum = subst (λ qs. label_sum c.args.document.now.topology qs ≤ 1024) same c.in-Ok.ensures.sum;
      classes = subst (λ is. AreClasses (IsHeld (queries_in d) is) c.in-Ok.told.letters c.in-Ok.told.classes) listed
          (subst (λ qs. AreClasses (IsHeld qs c.in-Ok.told.instances.items) c.in-Ok.told.letters c.in-Ok.told.classes) same c.in-Ok.ensures.classes);
      tests = subst (λ qs. TestsQueries c.args.document.now.topology qs c.in-Ok.told.letters) same c.in-Ok.ensures.tests;
      ignores = c.in-Ok.ensures.ignores;
    }

pub returns-clause-cause : goal.returns-clause-cause
returns-clause-cause g c =
    let same = queries_are c.args.document.now c.deref.result.now c.deref.ensures.value in
    subst (λ qs. IsCause c.in-Err.fault (label_sum c.args.document.now.topology qs)) same c.in-Err.ensures.cause
