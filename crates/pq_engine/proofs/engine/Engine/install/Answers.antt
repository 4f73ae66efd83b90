use Rattle.std.proofs.Common.{subst}
use Rattle.pq_engine.specs.Engine.{IsEngine}
use Rattle.pq_engine.proofs.engine.Engine.install.Goals as goal

pub returns-clause-installed : goal.returns-clause-installed
returns-clause-installed c = (subst IsEngine c.self.view_is c.self.invariant).installed
