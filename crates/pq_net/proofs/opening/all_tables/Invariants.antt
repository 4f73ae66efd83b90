use Rattle.std.proofs.Common.{◌≡◌, map, take}
use Rattle.pq_model.specs.SwitchMachine.{applies_all, no_tables}
use Rattle.pq_net.proofs.opening.all_tables.Given as goal

-- the switches so far have their tables
abbrev pub invariant-loop-messages : goal.invariant-loop-messages
invariant-loop-messages l = l.tables.items ≡ map (λ ms. applies_all no_tables ms.items) (take l.messages-index l.lists)
