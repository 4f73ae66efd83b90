use Rattle.std.proofs.Common.{subst}
use Rattle.pq_sum.specs.Sum.{UnitesParts}
use Rattle.pq_compile.specs.Documents.{document_tree}
use Rattle.pq_compile.specs.Prepared.{parts_in}
use Rattle.pq_engine.proofs.engine.Engine.total.Goals as goal

pub returns : goal.returns
returns c =
    let d = document_tree c.self.inside.document in
    subst (λ e. UnitesParts e.document.topology e.forward (parts_in e.document) c.total.result) c.self.view_is
    (c.total.ensures d.topology c.self.inside.kept.forward (parts_in d) c.self.invariant.summed)
