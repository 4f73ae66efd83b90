use Rattle.pq_edit.proofs.LawfulEdited.{edited_compilable}
use Rattle.pq_edit.proofs.lawful.edited_documents_are_lawful.Goals as goal

pub returns : goal.returns
returns c = edited_compilable
