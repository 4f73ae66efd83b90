use Rattle.pq_compile.specs.Documents.{document_tree}
use Rattle.pq_compile.specs.Prepared.{parts_in}
use Rattle.pq_engine.proofs.parts.summed.Goals as goal

pub renew_parts-requires-clause-policy : goal.renew_parts-requires-clause-policy
renew_parts-requires-clause-policy c = c.total.ensures c.args.document.now.topology c.args.forward.now
    (parts_in (document_tree c.args.document.now)) c.requires.summed

pub returns-in-Ok-copied-clause-change : goal.returns-in-Ok-copied-clause-change
returns-in-Ok-copied-clause-change c = record {
  summed = c.in-Ok-copied.ensures.same c.args.document.now.topology (parts_in (document_tree c.args.document.now)) c.requires.summed;
  renewed = c.in-Ok.ensures.renewed;
}
