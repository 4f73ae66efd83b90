use Rattle.std.proofs.Common.{◌≡◌, ◌++◌, map, drop, Ok}
use Rattle.pq_tree.specs.Trees.{trees}
use Rattle.pq_fields.specs.Pred.{pred_tree}
use Rattle.pq_topo.specs.Naming.{gathered, next}
use Rattle.pq_pred.specs.Predicates.{pred_readings}
use Rattle.pq_pred.proofs.predicates.+resolve.Given as goal

abbrev pub invariant-resolve_all-loop-term : goal.invariant-resolve_all-loop-term
invariant-resolve_all-loop-term l = next (gathered (pred_readings l.topology l.bytes (trees (drop l.term-index l.terms))))
    (λ ps. Ok (map pred_tree l.found.items ++ ps)) ≡ gathered (pred_readings l.topology l.bytes (trees l.terms))
