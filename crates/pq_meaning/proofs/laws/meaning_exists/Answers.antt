use Rattle.pq_meaning.proofs.Existing.{meaning_exists}
use Rattle.pq_meaning.proofs.laws.meaning_exists.Goals as goal

pub returns : goal.returns
returns c = meaning_exists
