use Rattle.std.proofs.Common.{take}
use Rattle.std.specs.Prelude.{All}
use Rattle.pq_model.specs.Lawful.{IsLawfulAction}
use Rattle.pq_flowmod.proofs.rules.are_lawful.Given as goal

-- the actions so far are lawful
abbrev pub invariant-loop-action : goal.invariant-loop-action
invariant-loop-action l = All IsLawfulAction (take l.action-index l.actions)
