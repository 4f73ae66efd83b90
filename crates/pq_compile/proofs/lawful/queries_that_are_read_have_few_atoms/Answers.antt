use Rattle.pq_grammar.specs.declared.sort.Sort.TheVariants.{Document}
use Rattle.pq_compile.proofs.LawfulDocuments.{document_few}
use Rattle.pq_compile.proofs.lawful.queries_that_are_read_have_few_atoms.Goals as goal

pub returns : goal.returns
returns c = λ bytes d spells. document_few Document bytes spells.statements d spells.sentence spells.named
