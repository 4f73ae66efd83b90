use Rattle.pq_compile.specs.Documents.{document_tree}
use Rattle.pq_edit.specs.Edits.{edit_tree}
use Rattle.engine_tests.proofs.texts.edit_of.Goals as goal

pub returns-in-Ok : goal.returns-in-Ok
returns-in-Ok c =
    c.edits_that_are_read_are_lawful.ensures c.args.text.now (document_tree c.args.document.now)
    (edit_tree c.in-Ok.edit) c.requires.compilable.lawful c.in-Ok.ensures.ok c.requires.short
