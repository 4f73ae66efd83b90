use Rattle.std.proofs.Common.{◌≡◌, take}
use Rattle.pq_local.proofs.copies.messages_copied.Given as goal

-- those so far are copied
abbrev pub invariant-loop-message : goal.invariant-loop-message
invariant-loop-message l = l.all.items ≡ take l.message-index l.messages
