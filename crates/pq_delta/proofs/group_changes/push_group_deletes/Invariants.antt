use Rattle.std.proofs.Common.{◌≡◌, ◌+◌, ◌-◌, ◌++◌, suc, length, map}
use Rattle.pq_model.specs.declared.message.Message.TheVariants.{Group}
use Rattle.pq_delta.specs.Changes.{group_deletes_from}
use Rattle.pq_delta.proofs.group_changes.push_group_deletes.Given as goal

-- the messages so far, with those of the groups that are left
abbrev pub invariant-loop-number : goal.invariant-loop-number
invariant-loop-number l =
    l.messages.items ++ map Group (group_deletes_from (length l.messages.items + 1) (suc l.number) (l.groups - l.number))
    ≡ l.initial.messages.items ++ map Group (group_deletes_from (length l.initial.messages.items + 1) (suc l.kept) (l.groups - l.kept))

abbrev pub decreases-loop-number : goal.decreases-loop-number
decreases-loop-number l = l.groups - l.number
