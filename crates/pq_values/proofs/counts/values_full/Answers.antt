use Rattle.std.proofs.Common.{List, ap, ◌∙◌}
use Rattle.pq_query.specs.Instances.{named_trees}
use Rattle.pq_values.specs.Known.{known_count}
use Rattle.pq_values.specs.Limits.{first_above, limits}
use Rattle.pq_values.specs.Stated.{Stated, part_trees, stated}
use Rattle.pq_values.proofs.Counted.{known_counted}
use Rattle.pq_values.proofs.Gathered.{all_gathered}
use Rattle.pq_values.proofs.counts.values_full.Goals as goal

pub returns : goal.returns
returns c =
    let T = c.args.topology.now in
    let ps = part_trees c.args.parts.now in
    let qs = named_trees c.args.queries.now in
    let ss : List Stated = stated T ps qs in
    c.first_of-full.ensures
    ∙ (ap (λ known. first_above (known_count known) limits) (c.as_slice.ensures.keys ∙ (c.in_ok-known.ensures ∙ all_gathered T ps qs))
    ∙ (λ i. first_above (λ f. known_counted ss f i) limits))
