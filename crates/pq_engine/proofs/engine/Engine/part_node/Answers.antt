use Rattle.std.proofs.Common.{◌<◌, length, sym, subst}
use Rattle.pq_sum.specs.Cells.{at_place}
use Rattle.pq_sum.specs.Sum.{UnitesParts}
use Rattle.pq_compile.specs.Documents.{document_tree}
use Rattle.pq_compile.specs.Prepared.{parts_in}
use Rattle.pq_engine.proofs.EngineLemmas.{part_within}
use Rattle.pq_engine.proofs.engine.Engine.part_node.Goals as goal

pub part-requires : goal.part-requires
part-requires c =
    let d = document_tree c.self.inside.document in
    record {
      is_sum = record { topology = d.topology; trees = c.self.inside.kept.forward; parts = parts_in d; summed = c.self.invariant.summed };
      within = part_within d c.args.place (subst (λ e. c.args.place < length e.document.parts) (sym c.self.view_is) c.requires);
    }

pub returns : goal.returns
returns c =
    let d = document_tree c.self.inside.document in
    subst (λ e. UnitesParts e.document.topology e.forward (at_place c.args.place (parts_in e.document)) c.part.result) c.self.view_is
    (c.part.ensures d.topology c.self.inside.kept.forward (parts_in d) c.self.invariant.summed
    (part_within d c.args.place (subst (λ e. c.args.place < length e.document.parts) (sym c.self.view_is) c.requires)))
