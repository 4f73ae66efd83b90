use Rattle.std.proofs.Common.{sym, subst}
use Rattle.pq_compile.specs.Prepared.{IsCompilable}
use Rattle.pq_edit.specs.Edits.{IsLawfulEdit, edit_tree}
use Rattle.engine_tests.proofs.engines.edit.Goals as goal

pub edit_of-requires-clause-compilable : goal.edit_of-requires-clause-compilable
edit_of-requires-clause-compilable c = subst IsCompilable (sym c.document.ensures.document) c.document.ensures.compilable

pub counted_edit-requires-clause-lawful : goal.counted_edit-requires-clause-lawful
counted_edit-requires-clause-lawful c = subst (λ d. IsLawfulEdit d (edit_tree c.in_ok-edit.edit)) c.document.ensures.document c.in_ok-edit.ensures
