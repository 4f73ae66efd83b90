use Rattle.std.proofs.Common.{◌≡◌, take}
use Rattle.std.specs.Prelude.{map}
use Rattle.pq_auto.specs.Parts.{class_of}
use Rattle.pq_auto.specs.Refinement.{row_of}
use Rattle.pq_auto.proofs.quotient.class_rows.Given as goal

abbrev pub invariant-loop-first : goal.invariant-loop-first
invariant-loop-first l = map (λ row. row.items) l.rows.items ≡ map (λ s. map (class_of l.parts) (row_of l.table s)) (take l.first-index l.first-items)
