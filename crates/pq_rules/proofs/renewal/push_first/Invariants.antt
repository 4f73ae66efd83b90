use Rattle.std.proofs.Common.{◌≡◌, ◌+◌, ◌++◌, None, drop, length, map}
use Rattle.pq_model.specs.declared.message.Message.TheVariants.{Flow}
use Rattle.pq_layout.specs.Messages.{adds_from, first_rule}
use Rattle.pq_rules.specs.Grouping.{resolved}
use Rattle.pq_rules.proofs.renewal.push_first.Given as goal

abbrev pub invariant-loop-entry : goal.invariant-loop-entry
invariant-loop-entry l =
    (l.messages.items ++ map Flow (adds_from (length l.messages.items + 1) 0 l.index (map first_rule (resolved None l.store (drop l.entry-index l.entries))))
    ≡ l.initial.messages.items ++ map Flow (adds_from (length l.initial.messages.items + 1) 0 0 (map first_rule (resolved None l.store l.entries))))
    × (l.index ≡ l.entry-index)
    × (length l.messages.items ≡ length l.initial.messages.items + l.entry-index)
