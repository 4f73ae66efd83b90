use Rattle.std.proofs.Common.{◌-◌, length}
use Rattle.pq_auto.specs.Refinement.{IsRound}
use Rattle.pq_auto.proofs.refinement.settled.Given as goal

abbrev pub invariant-loop-parts : goal.invariant-loop-parts
invariant-loop-parts l = IsRound l.table l.parts

abbrev pub decreases-loop-parts : goal.decreases-loop-parts
decreases-loop-parts l = length l.table.rows - length l.parts.firsts
