use Rattle.std.proofs.Common.{◌<◌, ◌+◌, length, take, sym, subst, arith}
use Rattle.pq_sum.specs.Sum.{AreParts}
use Rattle.pq_sum.proofs.Filling.{parts_still}
use Rattle.pq_compile.specs.Documents.{document_tree}
use Rattle.pq_compile.specs.Prepared.{parts_in}
use Rattle.pq_engine.proofs.SumsLemmas.{parts_long, parts_more}
use Rattle.pq_engine.proofs.diagrams.part_diagrams.Goals as goal

pub loop-place-preserved : goal.loop-place-preserved
loop-place-preserved g c =
    let d = c.args.document.now in
    let ps = parts_in (document_tree d) in
    let test = c.loop-place-test.true in
    let end = c.loop-place.auto.place-end in
    let long = parts_long d in
    let len = c.len-place-end.ensures in
    let within : c.loop-place.place < length ps = omega (arith, test, end, len, long) in
    subst (AreParts d.topology c.part_diagram.new.store (take (c.loop-place.place + 1) ps)) (sym c.in_ok-push.ensures.items)
    (parts_more d.topology c.part_diagram.new.store c.loop-place.place ps c.loop-place.ids.items c.in_ok-id.id within
    (parts_still d.topology c.loop-place.store c.part_diagram.new.store c.part_diagram.ensures.keeps
    (take c.loop-place.place ps) c.loop-place.ids.items c.loop-place.invariant)
    c.in_ok-id.ensures.part)
