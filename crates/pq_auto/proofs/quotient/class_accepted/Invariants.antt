use Rattle.std.proofs.Common.{◌≡◌, take}
use Rattle.std.specs.Prelude.{map}
use Rattle.pq_auto.specs.Machine.{accepted_at}
use Rattle.pq_auto.proofs.quotient.class_accepted.Given as goal

abbrev pub invariant-loop-first : goal.invariant-loop-first
invariant-loop-first l = map (λ list. list.items) l.lists.items ≡ map (accepted_at l.table) (take l.first-index l.first-items)
