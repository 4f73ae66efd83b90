use Rattle.std.proofs.Common.{map, length}
use Rattle.std.specs.Prelude.{◌↔◌}
use Rattle.pq_model.specs.Lawful.{Ascends, bucket_place}
use Rattle.pq_flowmod.proofs.rules.are_placed.Given as goal

-- what is left decides
abbrev pub invariant-loop-rest : goal.invariant-loop-rest
invariant-loop-rest l = Ascends (map bucket_place l.rest) ↔ Ascends (map bucket_place l.actions)

-- each turn takes an action
abbrev pub decreases-loop-rest : goal.decreases-loop-rest
decreases-loop-rest l = length l.rest
