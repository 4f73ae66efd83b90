use Rattle.std.proofs.Common.{◌≡◌, drop}
use Rattle.pq_switch.specs.Namings.{names}
use Rattle.pq_switch.proofs.naming.names_group.Given as goal

-- the actions left decide
abbrev pub invariant-loop-action : goal.invariant-loop-action
invariant-loop-action l = names l.group (drop l.action-index l.actions) ≡ names l.group l.actions
