use Rattle.std.proofs.Common.{◌≡◌, length}
use Rattle.pq_auto.specs.Parts.{IsParted}
use Rattle.pq_auto.specs.Refinement.{mark}
use Rattle.pq_auto.proofs.refinement.marked.Given as goal

abbrev pub invariant-loop-state : goal.invariant-loop-state
invariant-loop-state l = IsParted (mark l.table) l.parts × (length l.parts.classes ≡ l.state)
