use Rattle.std.proofs.Common.{sym, subst, arith}
use Rattle.std.specs.Prelude.{All}
use Rattle.pq_policy.specs.Policy.{IsLawfulPolicy}
use Rattle.pq_meaning.specs.Parts.{FitAsParts}
use Rattle.pq_sum.specs.Sum.{UnitesParts}
use Rattle.pq_compile.specs.Documents.{document_tree}
use Rattle.pq_compile.specs.Prepared.{parts_in}
use Rattle.pq_compile.proofs.Values.{lawful_parts}
use Rattle.pq_engine.proofs.EngineLemmas.{parts_fit}
use Rattle.pq_engine.proofs.SumsLemmas.{all_at_place, part_fits, part_sliced, sliced_work}
use Rattle.pq_engine.proofs.diagrams.part_diagram.Goals as goal

pub parts_forward-requires-clause-lawful : goal.parts_forward-requires-clause-lawful
parts_forward-requires-clause-lawful g c =
    let d = document_tree c.args.document.now in
    subst (All IsLawfulPolicy) (sym (part_sliced c.args.document.now c.deref.result.now c.args.place c.deref.ensures.value))
    (all_at_place IsLawfulPolicy c.args.place (parts_in d) (lawful_parts d c.requires.compilable))

pub parts_forward-requires-clause-fit : goal.parts_forward-requires-clause-fit
parts_forward-requires-clause-fit g c =
    let d = document_tree c.args.document.now in
    subst (FitAsParts c.args.document.now.topology) (sym (part_sliced c.args.document.now c.deref.result.now c.args.place c.deref.ensures.value))
    (part_fits d.topology (parts_in d) c.args.place (parts_fit d c.requires.compilable c.requires.values))

pub returns-in_err-id-clause-steps : goal.returns-in_err-id-clause-steps
returns-in_err-id-clause-steps g c =
    let steps = c.parts_forward.ensures.steps in
    let work = sliced_work c.args.document.now c.deref.result.now c.args.place c.deref.ensures.value c.requires.place in
    omega (arith, steps, work)

pub returns-clause-part : goal.returns-clause-part
returns-clause-part g c =
    subst (λ ps. UnitesParts c.args.document.now.topology c.parts_forward.new.store ps c.in_ok-id.id)
    (part_sliced c.args.document.now c.deref.result.now c.args.place c.deref.ensures.value) c.in_ok-id.ensures.forwards

pub returns-clause-steps : goal.returns-clause-steps
returns-clause-steps g c =
    let steps = c.parts_forward.ensures.steps in
    let work = sliced_work c.args.document.now c.deref.result.now c.args.place c.deref.ensures.value c.requires.place in
    omega (arith, steps, work)
