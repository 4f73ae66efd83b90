use Rattle.std.proofs.Common.{◌≡◌, ◌++◌, drop}
use Rattle.pq_model.specs.SwitchMachine.{changed_by, emits, runs}
use Rattle.pq_switch.proofs.sending.run.Given as goal

-- what is sent, with what the actions left send, is what all send; and these lead to the packet after all
abbrev pub invariant-loop-action : goal.invariant-loop-action
invariant-loop-action l = record {
  sent : l.sent.items ++ runs (emits l.groups) (drop l.action-index l.actions) l.x ≡ l.initial.sent.items ++ runs (emits l.groups) l.actions l.initial.x;
  after : changed_by (drop l.action-index l.actions) l.x ≡ changed_by l.actions l.initial.x;
}
