use Rattle.std.proofs.Common.{◌≡◌, ◌+◌, ◌≤◌, ◌++◌, suc, length, map}
use Rattle.pq_model.specs.declared.message.Message.TheVariants.{Group}
use Rattle.pq_delta.specs.Added.{groups_added}
use Rattle.pq_delta.specs.Changes.{group_mods_from, puts_from}
use Rattle.pq_delta.proofs.group_changes.push_groups.Given as goal

-- the messages so far, with those of the groups that are left
abbrev pub invariant-loop-group : goal.invariant-loop-group
invariant-loop-group l =
    (l.messages.items ++ map Group (group_mods_from (length l.messages.items + 1) (puts_from (suc l.number) (groups_added l.olds) (groups_added l.news)))
    ≡ l.initial.messages.items ++ map Group (group_mods_from (length l.initial.messages.items + 1) (puts_from 1 (groups_added l.old) (groups_added l.new))))
    × (l.number + length l.news ≤ length l.new)

abbrev pub decreases-loop-group : goal.decreases-loop-group
decreases-loop-group l = length l.news
