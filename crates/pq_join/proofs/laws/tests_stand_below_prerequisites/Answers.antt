use Rattle.pq_join.proofs.Guards.{arriving_stand_below, leaving_stand_below}
use Rattle.pq_join.proofs.laws.tests_stand_below_prerequisites.Goals as goal

pub returns-clause-arriving : goal.returns-clause-arriving
returns-clause-arriving c = arriving_stand_below

pub returns-clause-leaving : goal.returns-clause-leaving
returns-clause-leaving c = leaving_stand_below
