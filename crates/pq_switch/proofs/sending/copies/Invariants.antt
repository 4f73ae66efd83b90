use Rattle.std.proofs.Common.{◌≡◌, ◌++◌, ◌-◌}
use Rattle.pq_model.specs.SwitchMachine.{copies, sent_from_table}
use Rattle.pq_switch.proofs.sending.copies.Given as goal

-- what is sent, with what the tables to come send, is all
abbrev pub invariant-loop-passed : goal.invariant-loop-passed
invariant-loop-passed g l =
    l.sent.items ++ sent_from_table (255 - l._passed) (g.T.FlowTables.tables l.tables) l.table l.x ≡ copies (g.T.FlowTables.tables l.tables) l.initial.x
