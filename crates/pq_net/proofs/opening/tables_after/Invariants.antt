use Rattle.std.proofs.Common.{◌≡◌, drop}
use Rattle.pq_model.specs.SwitchMachine.{applies_all, no_tables}
use Rattle.pq_net.proofs.opening.tables_after.Given as goal

-- the messages left lead to the tables after all
abbrev pub invariant-loop-message : goal.invariant-loop-message
invariant-loop-message l = applies_all l.tables (drop l.message-index l.messages) ≡ applies_all no_tables l.messages
