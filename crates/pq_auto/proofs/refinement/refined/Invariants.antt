use Rattle.std.proofs.Common.{◌≡◌, length}
use Rattle.pq_auto.specs.Parts.{IsParted}
use Rattle.pq_auto.specs.Refinement.{signature}
use Rattle.pq_auto.proofs.refinement.refined.Given as goal

abbrev pub invariant-loop-state : goal.invariant-loop-state
invariant-loop-state l = IsParted (signature l.table l.parts) l.finer × (length l.finer.classes ≡ l.state)
