use Rattle.std.proofs.Common.{◌≡◌, ◌+◌, ◌++◌, drop, length, map}
use Rattle.pq_model.specs.declared.message.Message.TheVariants.{Flow}
use Rattle.pq_delta.specs.Added.{entries_added}
use Rattle.pq_delta.specs.Changes.{adds_from}
use Rattle.pq_delta.specs.Equal.{others}
use Rattle.pq_delta.proofs.switch.push_added.Given as goal

-- the messages so far, with those of the entries that are left
abbrev pub invariant-loop-message : goal.invariant-loop-message
invariant-loop-message l =
    l.messages.items ++ map Flow (adds_from (length l.messages.items + 1) (others l.known.keys (entries_added (drop l.message-index l.new))))
    ≡ l.initial.messages.items ++ map Flow (adds_from (length l.initial.messages.items + 1) (others l.known.keys (entries_added l.new)))
