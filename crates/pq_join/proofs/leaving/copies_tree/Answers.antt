use Rattle.pq_join.specs.Leaving.{copies_at}
use Rattle.pq_join.proofs.Mapping.{maps_make}
use Rattle.pq_join.proofs.leaving.copies_tree.Goals as goal

pub returns-clause-copies : goal.returns-clause-copies
returns-clause-copies c =
    maps_make (copies_at c.args.classes.now c.args.class) _ c.args.departures.now c.args.node c.mapped.new.into c.in_ok-id.id
    (λ s b a h. let first = h.2 in let answer = h.4 in cc) c.has_diagrams.ensures.diagrams c.in_ok-id.ensures.maps
