use Rattle.pq_edit.proofs.OneEdit.{no_edit_fault, one_edit, one_edit_fault}
use Rattle.pq_edit.proofs.laws.has_one_edit.Goals as goal

-- a text has one reading, and its statement one answer for the document
pub returns : goal.returns
returns c = record { edit = one_edit; fault = one_edit_fault; none = no_edit_fault }
