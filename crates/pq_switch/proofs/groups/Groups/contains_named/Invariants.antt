use Rattle.std.proofs.Common.{◌≡◌, drop}
use Rattle.std.specs.List.{list_all}
use Rattle.std.specs.FinMap.{contains_key}
use Rattle.pq_model.specs.SwitchMachine.{groups_named}
use Rattle.pq_switch.proofs.groups.Groups.contains_named.Given as goal

-- the actions left decide
abbrev pub invariant-loop-action : goal.invariant-loop-action
invariant-loop-action l = list_all (contains_key l.self) (groups_named (drop l.action-index l.actions)) ≡ list_all (contains_key l.self)
    (groups_named l.actions)
