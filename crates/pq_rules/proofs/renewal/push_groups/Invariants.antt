use Rattle.std.proofs.Common.{◌≡◌, ◌+◌, ◌++◌, drop, length, map}
use Rattle.pq_model.specs.declared.message.Message.TheVariants.{Group}
use Rattle.pq_layout.specs.Actions.{buckets_of}
use Rattle.pq_layout.specs.Messages.{groups_from}
use Rattle.pq_rules.proofs.renewal.push_groups.Given as goal

abbrev pub invariant-loop-copies : goal.invariant-loop-copies
invariant-loop-copies l =
    (l.messages.items ++ map Group (groups_from (length l.messages.items + 1) (l.number + 1) (map buckets_of (drop l.copies-index l.groups.keys)))
    ≡ l.initial.messages.items ++ map Group (groups_from (length l.initial.messages.items + 1) 1 (map buckets_of l.groups.keys)))
    × (l.number ≡ l.copies-index)
    × (length l.messages.items ≡ length l.initial.messages.items + l.copies-index)
