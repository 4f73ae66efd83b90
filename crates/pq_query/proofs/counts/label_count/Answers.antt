use Rattle.std.proofs.Common.{◌∙◌, ap}
use Rattle.pq_query.specs.Counts.{counted}
use Rattle.pq_query.specs.Query.{query_tree}
use Rattle.pq_query.proofs.Counted.{labels_counted}
use Rattle.pq_query.proofs.counts.label_count.Goals as goal

pub returns : goal.returns
returns c = c.count_labels.ensures
    ∙ (ap (λ s. counted s (query_tree c.args.query.now)) c.sizes_of.ensures
    ∙ labels_counted c.args.topology.now (query_tree c.args.query.now))
