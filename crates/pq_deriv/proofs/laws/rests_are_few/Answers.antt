use Rattle.pq_deriv.proofs.Rests.{count_rests, count_distinct}
use Rattle.pq_deriv.proofs.laws.rests_are_few.Goals as goal

pub returns-clause-all : goal.returns-clause-all
returns-clause-all c = count_rests

pub returns-clause-distinct : goal.returns-clause-distinct
returns-clause-distinct c = count_distinct
