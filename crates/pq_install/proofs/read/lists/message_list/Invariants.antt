use Rattle.std.proofs.Common.{◌≡◌, length, All}
use Rattle.std.specs.List.{flat_map}
use Rattle.pq_model.specs.Spelling.{message_bytes}
use Rattle.pq_install.specs.Damage.{IsReadMessage}
use Rattle.pq_install.specs.Front.{IsAtFront}
use Rattle.pq_install.proofs.read.lists.message_list.Given as goal

-- the messages so far are at the front
abbrev pub invariant-loop : goal.invariant-loop
invariant-loop l = (length l.messages.items ≡ l.counter) × IsAtFront (All (IsReadMessage l.version)) (flat_map message_bytes) l.bytes l.messages.items l.rest
