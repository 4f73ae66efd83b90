use Rattle.std.proofs.Common.{◌≡◌, ◌+◌, ◌++◌, [], drop, length, map}
use Rattle.pq_model.specs.declared.message.Message.TheVariants.{Flow}
use Rattle.pq_layout.specs.Messages.{adds_from}
use Rattle.pq_rules.specs.Grouping.{placed_rules, resolved}
use Rattle.pq_rules.proofs.renewal.push_second.Given as goal

abbrev pub invariant-loop-entry : goal.invariant-loop-entry
invariant-loop-entry l =
    (l.messages.items ++ map Flow
    (adds_from (length l.messages.items + 1) 1 l.index
    (placed_rules (resolved [] l.store (drop l.entry-index l.entries)) (drop l.entry-index l.places)))
    ≡ l.initial.messages.items ++ map Flow (adds_from (length l.initial.messages.items + 1) 1 0 (placed_rules (resolved [] l.store l.entries) l.places)))
    × (l.index ≡ l.entry-index)
    × (length l.messages.items ≡ length l.initial.messages.items + l.entry-index)
