use Rattle.std.proofs.Common.{◌↔◌, length}
use Rattle.pq_model.specs.Buckets.{instance_numbers}
use Rattle.pq_model.specs.Install.{AscendsBy}
use Rattle.pq_install.proofs.read.report.ascend.Given as goal

-- the instances that are left ascend exactly where all do
abbrev pub invariant-loop-left : goal.invariant-loop-left
invariant-loop-left l = AscendsBy instance_numbers l.left ↔ AscendsBy instance_numbers l.pairs

abbrev pub decreases-loop-left : goal.decreases-loop-left
decreases-loop-left l = length l.left
