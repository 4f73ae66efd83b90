use Rattle.std.proofs.Common.{sym, subst, arith}
use Rattle.pq_sum.specs.Places.{IsSummed}
use Rattle.pq_compile.specs.Documents.{document_tree}
use Rattle.pq_engine.proofs.SumsLemmas.{kept_union, removable, removal_copied, removed_before}
use Rattle.pq_engine.proofs.diagrams.without_part.Goals as goal

pub remove-requires : goal.remove-requires
remove-requires g c =
    let d = document_tree c.args.document.now in
    let copied = removal_copied d c.args.forward.now c.in_ok-store.store c.args.sum.now c.in_ok-store.sum c.args.place
    c.in_ok-store.ensures.same c.requires.awaits in
    record { topology = d.topology; parts = copied.before; remove = (removable d c.in_ok-store.store c.in_ok-store.sum c.args.place copied) }

pub returns-in_err-remove-clause-steps : goal.returns-in_err-remove-clause-steps
returns-in_err-remove-clause-steps g c =
    let d = document_tree c.args.document.now in
    let copied = removal_copied d c.args.forward.now c.in_ok-store.store c.args.sum.now c.in_ok-store.sum c.args.place
    c.in_ok-store.ensures.same c.requires.awaits in
    let long = removed_before c.args.document.now c.in_ok-store.store c.in_ok-store.sum c.args.place copied in
    λ k within.
    let after = c.remove.ensures.steps d.topology copied.before (removable d c.in_ok-store.store c.in_ok-store.sum c.args.place copied) k
    (omega (arith, long, within)) in
    omega (arith, after)

pub returns-clause-sum : goal.returns-clause-sum
returns-clause-sum g c =
    let d = document_tree c.args.document.now in
    let copied = removal_copied d c.args.forward.now c.in_ok-store.store c.args.sum.now c.in_ok-store.sum c.args.place
    c.in_ok-store.ensures.same c.requires.awaits in
    subst (λ ps. IsSummed d.topology c.remove.new.store ps c.remove.new.self) (sym copied.removed)
    (c.in_ok-remove.ensures.sum d.topology copied.before (removable d c.in_ok-store.store c.in_ok-store.sum c.args.place copied))

pub returns-clause-steps : goal.returns-clause-steps
returns-clause-steps g c =
    let d = document_tree c.args.document.now in
    let copied = removal_copied d c.args.forward.now c.in_ok-store.store c.args.sum.now c.in_ok-store.sum c.args.place
    c.in_ok-store.ensures.same c.requires.awaits in
    let long = removed_before c.args.document.now c.in_ok-store.store c.in_ok-store.sum c.args.place copied in
    λ k within.
    let after = c.remove.ensures.steps d.topology copied.before (removable d c.in_ok-store.store c.in_ok-store.sum c.args.place copied) k
    (omega (arith, long, within)) in
    omega (arith, after)

-- the diagram of all parts before stays where it is
pub returns-clause-before : goal.returns-clause-before
returns-clause-before g c ps summed =
    let d = document_tree c.args.document.now in
    kept_union d.topology ps c.in_ok-store.store c.remove.new.store c.total-before.result c.remove.ensures.keeps
    (c.total-before.ensures d.topology c.in_ok-store.store ps (c.in_ok-store.ensures.same d.topology ps summed))

pub total-before-requires : goal.total-before-requires
total-before-requires g c =
    let d = document_tree c.args.document.now in
    let copied = removal_copied d c.args.forward.now c.in_ok-store.store c.args.sum.now c.in_ok-store.sum c.args.place
    c.in_ok-store.ensures.same c.requires.awaits in
    record { topology = d.topology; trees = c.in_ok-store.store; parts = copied.before; summed = copied.summed }
