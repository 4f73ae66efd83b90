use Rattle.pq_join.specs.Arriving.{arrival_by}
use Rattle.pq_join.proofs.Mapping.{maps_make}
use Rattle.pq_join.proofs.arriving.arrival_tree.Goals as goal

pub returns-clause-arrives : goal.returns-clause-arrives
returns-clause-arrives c =
    maps_make (arrival_by c.args.classes.now c.args.class c.args.over_link) _ c.args.seen.now c.args.root c.mapped.new.into c.in_ok-id.id
    (λ s b a h. let first = h.2 in let answer = h.4 in cc) c.has_diagrams.ensures.diagrams c.in_ok-id.ensures.maps
