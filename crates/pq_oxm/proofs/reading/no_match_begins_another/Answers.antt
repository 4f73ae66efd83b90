use Rattle.pq_oxm.proofs.Whole.{one_match}
use Rattle.pq_oxm.proofs.reading.no_match_begins_another.Goals as goal

-- by the parts of a spelling
pub returns : goal.returns
returns c = one_match
