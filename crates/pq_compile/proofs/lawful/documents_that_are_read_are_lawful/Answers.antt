use Rattle.pq_compile.proofs.LawfulDocuments.{document_lawful}
use Rattle.pq_compile.proofs.lawful.documents_that_are_read_are_lawful.Goals as goal

-- the network is one, and what is read for it is lawful
pub returns : goal.returns
returns c = λ bytes d spells. document_lawful bytes spells.statements d spells.named
