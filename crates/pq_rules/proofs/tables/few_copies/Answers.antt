use Rattle.pq_rules.specs.Grouping.{IsLeafAt}
use Rattle.pq_rules.proofs.GatherLemmas.{element}
use Rattle.pq_rules.proofs.tables.few_copies.Goals as goal

pub leaf_copies-copies-requires : goal.leaf_copies-copies-requires
leaf_copies-copies-requires c =
    element (λ e. IsLeafAt c.args.store.now e.1) c.args.entries.now c.loop-entry.entry-index c.entry-item.result c.requires
    c.loop-entry-test.true c.entry-item.is
