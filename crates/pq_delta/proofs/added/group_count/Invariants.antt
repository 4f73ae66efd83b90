use Rattle.std.proofs.Common.{◌≡◌, ◌+◌, ◌≤◌, drop, length}
use Rattle.pq_delta.specs.Added.{groups_added}
use Rattle.pq_delta.proofs.added.group_count.Given as goal

-- the count so far and the groups that are left
abbrev pub invariant-loop-message : goal.invariant-loop-message
invariant-loop-message l = (l.count + length (groups_added (drop l.message-index l.messages)) ≡ length (groups_added l.messages)) × (l.count ≤ l.message-index)
