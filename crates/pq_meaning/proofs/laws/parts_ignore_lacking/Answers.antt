use Rattle.pq_meaning.proofs.Ignoring.{parts_ignore}
use Rattle.pq_meaning.proofs.laws.parts_ignore_lacking.Goals as goal

pub returns : goal.returns
returns c = parts_ignore
