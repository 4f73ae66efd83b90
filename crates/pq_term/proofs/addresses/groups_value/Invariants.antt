use Rattle.std.proofs.Common.{length}
use Rattle.std.specs.Prelude.{option_copied}
use Rattle.pq_term.specs.Groups.{parts, parts_in}
use Rattle.pq_term.proofs.GroupValues.{IsValueBefore}
use Rattle.pq_term.proofs.addresses.groups_value.Given as goal

-- the groups so far have this value
abbrev pub invariant-loop-left : goal.invariant-loop-left
invariant-loop-left l = IsValueBefore l.weight l.base (parts l.separator l.text) (parts_in l.separator (option_copied l.left)) l.value

abbrev pub decreases-loop-left : goal.decreases-loop-left
decreases-loop-left l = length (parts_in l.separator (option_copied l.left))
