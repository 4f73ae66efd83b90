use Rattle.std.proofs.Common.{◌≡◌, drop}
use Rattle.pq_values.specs.Known.{known_count}
use Rattle.pq_values.specs.Limits.{first_above}
use Rattle.pq_values.proofs.counts.first_of.Given as goal

-- the first of all fields is among those that are left
abbrev pub invariant-loop-limit : goal.invariant-loop-limit
invariant-loop-limit l = first_above (known_count l.known) (drop l.limit-index l.limits) ≡ first_above (known_count l.known) l.limits
