use Rattle.std.proofs.Common.{◌≡◌, ◌≤◌, drop, length}
use Rattle.pq_query.specs.Counts.{put_last_first}
use Rattle.pq_query.proofs.values.put_all.Given as goal

-- the last numbers are in the set
abbrev pub invariant-loop-left : goal.invariant-loop-left
invariant-loop-left l = record {
  within : l.left ≤ length l.numbers;
  keys : l.into.keys ≡ put_last_first (drop l.left l.numbers) l.initial.into.keys;
}

abbrev pub decreases-loop-left : goal.decreases-loop-left
decreases-loop-left l = l.left
