use Rattle.std.specs.Prelude.{slice_get}
use Rattle.pq_store.proofs.LeastWeight.{visit_weight, visit_from_weight}
use Rattle.pq_store.proofs.store.Store.+search.Given as goal

abbrev pub decreases-visit : goal.decreases-visit
decreases-visit g l = visit_weight (slice_get l.self.now l.node)

abbrev pub decreases-visit_from : goal.decreases-visit_from
decreases-visit_from g l = visit_from_weight l.field (slice_get l.self.now l.node)
