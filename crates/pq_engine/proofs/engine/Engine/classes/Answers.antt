use Rattle.std.proofs.Common.{subst}
use Rattle.pq_engine.specs.Engine.{IsEngine}
use Rattle.pq_engine.proofs.engine.Engine.classes.Goals as goal

pub returns-clause-classified : goal.returns-clause-classified
returns-clause-classified c = (subst IsEngine c.self.view_is c.self.invariant).classified
