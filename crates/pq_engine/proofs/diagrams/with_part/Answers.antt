use Rattle.std.proofs.Common.{sym, subst, arith}
use Rattle.pq_sum.specs.Places.{IsSummed}
use Rattle.pq_compile.specs.Documents.{document_tree}
use Rattle.pq_engine.proofs.SumsLemmas.{kept_union, awaited_few, awaited_within, put_copied, puttable, replaced_long}
use Rattle.pq_engine.proofs.diagrams.with_part.Goals as goal

pub part_diagram-requires-clause-place : goal.part_diagram-requires-clause-place
part_diagram-requires-clause-place g c = awaited_within c.args.document.now c.args.forward.now c.args.sum.now c.args.place c.requires.awaits

pub put-requires : goal.put-requires
put-requires g c =
    let d = document_tree c.args.document.now in
    let copied = put_copied d c.args.forward.now c.in_ok-store.store c.args.sum.now c.in_ok-store.sum c.args.place
    c.in_ok-store.ensures.same c.requires.awaits in
    record {
      topology = d.topology;
      parts = copied.before;
      part = copied.part;
      put =
          (puttable d c.requires.compilable c.requires.values c.in_ok-store.store c.part_diagram.new.store c.in_ok-store.sum c.args.place
          c.in_ok-part.part copied c.part_diagram.ensures.keeps c.in_ok-part.ensures.part);
    }

pub returns-in_err-put-clause-steps : goal.returns-in_err-put-clause-steps
returns-in_err-put-clause-steps g c =
    let d = document_tree c.args.document.now in
    let copied = put_copied d c.args.forward.now c.in_ok-store.store c.args.sum.now c.in_ok-store.sum c.args.place
    c.in_ok-store.ensures.same c.requires.awaits in
    let few = awaited_few c.args.document.now c.in_ok-store.store c.in_ok-store.sum c.args.place copied in
    let long = replaced_long c.args.document.now c.in_ok-store.store c.in_ok-store.sum c.args.place copied in
    let before = c.part_diagram.ensures.steps in
    λ k within.
    let after = c.put.ensures.steps d.topology copied.before copied.part
    (puttable d c.requires.compilable c.requires.values c.in_ok-store.store c.part_diagram.new.store c.in_ok-store.sum c.args.place
    c.in_ok-part.part copied c.part_diagram.ensures.keeps c.in_ok-part.ensures.part) k (omega (arith, few, within))
    (omega (arith, long, within)) in
    omega (arith, before, after)

pub returns-clause-sum : goal.returns-clause-sum
returns-clause-sum g c =
    let d = document_tree c.args.document.now in
    let copied = put_copied d c.args.forward.now c.in_ok-store.store c.args.sum.now c.in_ok-store.sum c.args.place
    c.in_ok-store.ensures.same c.requires.awaits in
    subst (λ ps. IsSummed d.topology c.put.new.store ps c.put.new.self) (sym copied.put)
    (c.in_ok-put.ensures.sum d.topology copied.before copied.part
    (puttable d c.requires.compilable c.requires.values c.in_ok-store.store c.part_diagram.new.store c.in_ok-store.sum c.args.place
    c.in_ok-part.part copied c.part_diagram.ensures.keeps c.in_ok-part.ensures.part))

pub returns-clause-steps : goal.returns-clause-steps
returns-clause-steps g c =
    let d = document_tree c.args.document.now in
    let copied = put_copied d c.args.forward.now c.in_ok-store.store c.args.sum.now c.in_ok-store.sum c.args.place
    c.in_ok-store.ensures.same c.requires.awaits in
    let few = awaited_few c.args.document.now c.in_ok-store.store c.in_ok-store.sum c.args.place copied in
    let long = replaced_long c.args.document.now c.in_ok-store.store c.in_ok-store.sum c.args.place copied in
    let before = c.part_diagram.ensures.steps in
    λ k within.
    let after = c.put.ensures.steps d.topology copied.before copied.part
    (puttable d c.requires.compilable c.requires.values c.in_ok-store.store c.part_diagram.new.store c.in_ok-store.sum c.args.place
    c.in_ok-part.part copied c.part_diagram.ensures.keeps c.in_ok-part.ensures.part) k (omega (arith, few, within))
    (omega (arith, long, within)) in
    omega (arith, before, after)

-- the diagram of all parts before stays where it is
pub returns-clause-before : goal.returns-clause-before
returns-clause-before g c ps summed =
    let d = document_tree c.args.document.now in
    kept_union d.topology ps c.part_diagram.new.store c.put.new.store c.total-before.result c.put.ensures.keeps
    (kept_union d.topology ps c.in_ok-store.store c.part_diagram.new.store c.total-before.result c.part_diagram.ensures.keeps
    (c.total-before.ensures d.topology c.in_ok-store.store ps (c.in_ok-store.ensures.same d.topology ps summed)))

pub total-before-requires : goal.total-before-requires
total-before-requires g c =
    let d = document_tree c.args.document.now in
    let copied = put_copied d c.args.forward.now c.in_ok-store.store c.args.sum.now c.in_ok-store.sum c.args.place
    c.in_ok-store.ensures.same c.requires.awaits in
    record { topology = d.topology; trees = c.in_ok-store.store; parts = copied.before; summed = copied.summed }
