use Rattle.pq_query.proofs.OneFromEach.{label_more, parted_at}
use Rattle.pq_query.proofs.listing.label_at.Goals as goal

pub nonzero_div-place : goal.nonzero_div-place
nonzero_div-place c =
    (parted_at c.args.lists.now c.loop-list.list-index c.list-item.result c.numbers-values.result.now c.loop-list.block c.loop-list.place
    c.loop-list-test.true c.list-item.is c.numbers-values.ensures c.loop-list.invariant.block c.loop-list.invariant.within).room

pub bounds-values-place : goal.bounds-values-place
bounds-values-place c =
    (parted_at c.args.lists.now c.loop-list.list-index c.list-item.result c.numbers-values.result.now c.loop-list.block c.loop-list.place
    c.loop-list-test.true c.list-item.is c.numbers-values.ensures c.loop-list.invariant.block c.loop-list.invariant.within).first

pub nonzero_rem-place : goal.nonzero_rem-place
nonzero_rem-place c =
    (parted_at c.args.lists.now c.loop-list.list-index c.list-item.result c.numbers-values.result.now c.loop-list.block c.loop-list.place
    c.loop-list-test.true c.list-item.is c.numbers-values.ensures c.loop-list.invariant.block c.loop-list.invariant.within).room

pub loop-list-preserved : goal.loop-list-preserved
loop-list-preserved c =
    let parts = parted_at c.args.lists.now c.loop-list.list-index c.list-item.result c.numbers-values.result.now c.loop-list.block
    c.loop-list.place c.loop-list-test.true c.list-item.is c.numbers-values.ensures c.loop-list.invariant.block
    c.loop-list.invariant.within in
    record {
      block = parts.block;
      within = parts.later;
      label = label_more c.args.lists.now c.loop-list.list-index c.list-item.result c.numbers-values.result.now c.loop-list.block
          c.loop-list.place c.loop-list.label.items c.push.new.self.items _ c.loop-list-test.true c.list-item.is c.numbers-values.ensures
          c.loop-list.invariant.block c.loop-list.invariant.within c.in_ok-push.ensures.items c.loop-list.invariant.label;
    }
