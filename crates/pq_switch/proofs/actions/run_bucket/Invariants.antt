use Rattle.std.proofs.Common.{◌≡◌, ◌++◌, drop}
use Rattle.pq_model.specs.SwitchMachine.{emits_in_bucket, runs}
use Rattle.pq_switch.proofs.actions.run_bucket.Given as goal

-- what is sent, with what the actions left send, is what all send
abbrev pub invariant-loop-action : goal.invariant-loop-action
invariant-loop-action l = l.sent.items ++ runs emits_in_bucket (drop l.action-index l.bucket) l.x ≡ l.initial.sent.items
    ++ runs emits_in_bucket l.bucket l.initial.x
