use Rattle.std.proofs.Common.{◌≡◌, ◌++◌, map, drop}
use Rattle.pq_deriv.specs.Parts.{spelled, set_of}
use Rattle.pq_deriv.proofs.sets.spell_set.Given as goal

abbrev pub invariant-loop-rest : goal.invariant-loop-rest
invariant-loop-rest l = l.out.items ++ spelled (map (λ r. r.items) (drop l.rest-index l.set)) ≡ set_of (map (λ r. r.items) l.set)
