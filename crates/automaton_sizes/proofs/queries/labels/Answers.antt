use Rattle.pq_lists.proofs.Ranges.{range_differs}
use Rattle.automaton_sizes.proofs.queries.labels.Goals as goal

pub group-requires : goal.group-requires
group-requires c = rw c.in_ok-values.ensures.items (range_differs 1 2)
