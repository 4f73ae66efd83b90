use Rattle.std.proofs.Common.{◌≡◌, drop}
use Rattle.pq_inspect.specs.Inspection.{message_data}
use Rattle.pq_inspect.proofs.Elements.{with_rest}
use Rattle.pq_inspect.proofs.message.write_messages.Given as goal

-- with the messages that are left it is the whole text
abbrev pub invariant-loop-index : goal.invariant-loop-index
invariant-loop-index l = with_rest message_data l.into.items l.index (drop l.index l.messages)
    ≡ with_rest message_data l.initial.into.items 0 l.messages
