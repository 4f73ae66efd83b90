use Rattle.std.proofs.Common.{subst}
use Rattle.pq_engine.specs.Engine.{IsEngine}
use Rattle.pq_engine.proofs.engine.Engine.document.Goals as goal

pub returns-clause-compilable : goal.returns-clause-compilable
returns-clause-compilable c = (subst IsEngine c.self.view_is c.self.invariant).compilable

pub returns-clause-within : goal.returns-clause-within
returns-clause-within c = (subst IsEngine c.self.view_is c.self.invariant).within
