use Rattle.std.proofs.Common.{◌≡◌, ◌≤◌, length}
use Rattle.pq_delta.specs.Added.{groups_added}
use Rattle.pq_delta.proofs.added.next_group.Given as goal

-- the messages so far add no group
abbrev pub invariant-loop-rest : goal.invariant-loop-rest
invariant-loop-rest l = (groups_added l.rest ≡ groups_added l.messages) × (length l.rest ≤ length l.messages)

abbrev pub decreases-loop-rest : goal.decreases-loop-rest
decreases-loop-rest l = length l.rest
