use Rattle.std.proofs.Common.{◌≡◌, take}
use Rattle.pq_delta.specs.Added.{entries_added, groups_added}
use Rattle.pq_delta.proofs.unchanged.all_add_same.Given as goal

-- the messages so far add the same
abbrev pub invariant-loop-place : goal.invariant-loop-place
invariant-loop-place l = record {
  entries : entries_added (take l.place l.old) ≡ entries_added (take l.place l.new);
  groups : groups_added (take l.place l.old) ≡ groups_added (take l.place l.new);
}
