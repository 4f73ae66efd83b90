use Rattle.pq_install.proofs.OneSpelling.{same_length}
use Rattle.pq_install.proofs.laws.no_spelling_begins_another.Goals as goal

pub returns : goal.returns
returns c = λ bytes m n i j within here first second. same_length bytes i j m n within here first second
