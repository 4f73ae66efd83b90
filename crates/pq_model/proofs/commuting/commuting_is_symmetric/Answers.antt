use Rattle.pq_model.proofs.CommutingFlows.{commute-sym}
use Rattle.pq_model.proofs.commuting.commuting_is_symmetric.Goals as goal

pub returns : goal.returns
returns c = commute-sym
