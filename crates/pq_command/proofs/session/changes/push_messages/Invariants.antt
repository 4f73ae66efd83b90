use Rattle.std.proofs.Common.{◌≡◌, ◌++◌, take}
use Rattle.std.specs.List.{flat_map}
use Rattle.pq_model.specs.Spelling.{message_bytes}
use Rattle.pq_command.proofs.session.changes.push_messages.Given as goal

-- the messages so far are appended
abbrev pub invariant-loop-message : goal.invariant-loop-message
invariant-loop-message l = l.into.items ≡ l.initial.into.items ++ flat_map message_bytes (take l.message-index l.messages)
