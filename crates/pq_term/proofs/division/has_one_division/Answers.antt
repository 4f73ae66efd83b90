use Rattle.pq_term.proofs.Ends.{one_division}
use Rattle.pq_term.proofs.division.has_one_division.Goals as goal

-- by the first tokens, one after another
pub returns : goal.returns
returns c = one_division
