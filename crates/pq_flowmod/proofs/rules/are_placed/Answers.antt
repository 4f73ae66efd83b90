use Rattle.std.proofs.Common.{refl}
use Rattle.pq_flowmod.proofs.RuleLaws.{places_end}
use Rattle.pq_flowmod.proofs.rules.are_placed.Goals as goal

-- at most one action is left
pub returns : goal.returns
returns c = ((λ t. c.loop-rest.invariant.0 (places_end c.loop-rest.rest.now c.in_default.len_below)), λ all. refl)
