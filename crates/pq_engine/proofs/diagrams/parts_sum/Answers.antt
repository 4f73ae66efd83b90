use Rattle.std.proofs.Common.{sym, subst}
use Rattle.pq_sum.specs.Sum.{AreParts}
use Rattle.pq_compile.specs.Documents.{document_tree}
use Rattle.pq_compile.specs.Prepared.{parts_in}
use Rattle.pq_engine.proofs.EngineLemmas.{parts_few, parts_fit}
use Rattle.pq_engine.proofs.diagrams.parts_sum.Goals as goal

pub open-requires : goal.open-requires
open-requires g c =
    let d = document_tree c.args.document.now in
    record {
      topology = d.topology;
      parts = parts_in d;
      each = subst (AreParts d.topology c.part_diagrams.new.store (parts_in d)) (sym c.deref.ensures.value) c.in_ok-ids.ensures;
      few = parts_few d c.requires.compilable;
      fits = parts_fit d c.requires.compilable c.requires.values;
    }

pub returns : goal.returns
returns g c =
    let d = document_tree c.args.document.now in
    c.in_ok-sum.ensures.sum d.topology (parts_in d)
    (subst (AreParts d.topology c.part_diagrams.new.store (parts_in d)) (sym c.deref.ensures.value) c.in_ok-ids.ensures)
    (parts_few d c.requires.compilable) (parts_fit d c.requires.compilable c.requires.values)
