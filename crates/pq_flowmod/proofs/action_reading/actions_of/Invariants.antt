use Rattle.std.proofs.Common.{length}
use Rattle.pq_model.specs.Lawful.{IsLawfulAction}
use Rattle.pq_model.specs.Spelling.{action_bytes}
use Rattle.pq_flowmod.proofs.Leading.{Leads}
use Rattle.pq_flowmod.proofs.action_reading.actions_of.Given as goal

-- the actions so far lead those that the bytes spell
abbrev pub invariant-loop-rest : goal.invariant-loop-rest
invariant-loop-rest l = Leads action_bytes IsLawfulAction l.bytes l.actions.items l.rest

-- each turn takes an action
abbrev pub decreases-loop-rest : goal.decreases-loop-rest
decreases-loop-rest l = length l.rest
