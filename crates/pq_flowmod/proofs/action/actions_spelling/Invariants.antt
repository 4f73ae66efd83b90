use Rattle.std.proofs.Common.{◌≡◌, take}
use Rattle.pq_model.specs.Spelling.{actions_bytes}
use Rattle.pq_flowmod.proofs.action.actions_spelling.Given as goal

-- what is written so far is the spelling of the actions so far
abbrev pub invariant-loop-action : goal.invariant-loop-action
invariant-loop-action l = l.bytes.items ≡ actions_bytes (take l.action-index l.actions)
