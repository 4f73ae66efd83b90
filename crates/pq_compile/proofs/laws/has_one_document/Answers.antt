use Rattle.pq_compile.proofs.OneDocument.{one_document, one_document_fault, no_document_fault}
use Rattle.pq_compile.proofs.laws.has_one_document.Goals as goal

-- a text has one reading, and its statements one answer
pub returns : goal.returns
returns c = record { document = one_document; fault = one_document_fault; none = no_document_fault }
