use Rattle.std.proofs.Common.{◌≡◌, drop}
use Rattle.pq_tree.specs.Growth.{bare, growth}
use Rattle.pq_tree.proofs.Machine.{grow}
use Rattle.pq_tree.proofs.growth.grown.Given as goal

-- what has grown, with the marks that are left, grows to what all of them grow to
abbrev pub invariant-loop-mark : goal.invariant-loop-mark
invariant-loop-mark l = grow (drop l.mark-index l.marks) (growth l.growing) ≡ grow l.marks bare
