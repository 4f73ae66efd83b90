use Rattle.std.proofs.lemmas.List.{drop_all}
use Rattle.std.proofs.Common.{drop}
use Rattle.pq_rules.proofs.CountsLemmas.{capped_sum_within, count_all, count_more}
use Rattle.pq_rules.proofs.counting.count_entries.Goals as goal

pub loop-root-preserved : goal.loop-root-preserved
loop-root-preserved g c = (
  count_more c.args.store.now c.args.roots.now c.loop-root.root-index c.root-item.result c.loop-root.count c.in_ok-more.more c.saturating_add-count.result
      c.loop-root-test.true c.root-item.is c.in_ok-more.ensures.count c.saturating_add-count.ensures c.loop-root.invariant.0,
  c.in_ok-more.ensures.counts,
  capped_sum_within c.loop-root.count c.in_ok-more.more c.saturating_add-count.result c.saturating_add-count.ensures,
)

pub returns : goal.returns
returns g c =
    count_all c.args.store.now c.args.roots.now (drop c.loop-root.root-index c.args.roots.now) c.loop-root.count
    (drop_all c.loop-root.root-index c.args.roots.now c.loop-root-test.false)
    c.loop-root.invariant.2 c.loop-root.invariant.0
