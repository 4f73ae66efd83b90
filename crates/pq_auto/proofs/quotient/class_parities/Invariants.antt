use Rattle.std.proofs.Common.{◌≡◌, take}
use Rattle.std.specs.Prelude.{map}
use Rattle.pq_auto.specs.Machine.{is_even_at}
use Rattle.pq_auto.proofs.quotient.class_parities.Given as goal

abbrev pub invariant-loop-first : goal.invariant-loop-first
invariant-loop-first l = l.even.items ≡ map (is_even_at l.table) (take l.first-index l.first-items)
