use Rattle.std.proofs.Common.{sym, subst, ap, ◌∙◌}
use Rattle.pq_query.specs.Instances.{instances_of}
use Rattle.pq_sum.specs.Sum.{UnitesParts}
use Rattle.pq_compile.specs.Prepared.{AreClassified, parts_in, queries_in}
use Rattle.engine_tests.proofs.emission.emitted_by.Goals as goal

pub emitted-requires-clause-total : goal.emitted-requires-clause-total
emitted-requires-clause-total c =
    let e = c.args.engine.now in
    subst (λ d. UnitesParts d.topology c.forward-forward.result.now (parts_in d) c.total-total.result) (sym c.requires.document)
    (subst (λ ts. UnitesParts e.document.topology ts (parts_in e.document) c.total-total.result) (sym c.forward-forward.ensures) c.total-total.ensures)

pub emitted-requires-clause-classified : goal.emitted-requires-clause-classified
emitted-requires-clause-classified c =
    let e = c.args.engine.now in
    let told = c.classes-classes.ensures.classified.told.instances in
    let same = told ∙ sym (c.requires.instances ∙ ap (λ d. instances_of d.topology (queries_in d)) c.requires.document) in
    subst (λ d. AreClassified d c.args.instances.now c.letters-letters.result.now c.classes-classes.result.now) (sym c.requires.document)
    (subst (λ is. AreClassified e.document is c.letters-letters.result.now c.classes-classes.result.now) same
    (subst (λ a. AreClassified e.document e.instances a c.classes-classes.result.now) (sym c.letters-letters.ensures)
    (subst (λ m. AreClassified e.document e.instances e.letters m) (sym c.classes-classes.ensures.classes) c.classes-classes.ensures.classified)))
