use Rattle.std.proofs.Common.{[], ap, drop}
use Rattle.std.proofs.lemmas.List.{drop_all}
use Rattle.pq_rules.specs.Grouping.{IsLeafAt, resolved}
use Rattle.pq_rules.proofs.GatherLemmas.{element}
use Rattle.pq_rules.proofs.GroupingLemmas.{all_placed, entry_grouped}
use Rattle.pq_rules.proofs.grouping.grouped.Goals as goal

pub group_place-requires-clause-leaf : goal.group_place-requires-clause-leaf
group_place-requires-clause-leaf c =
    element (λ e. IsLeafAt c.args.store.now e.1) c.args.entries.now c.loop-entry.entry-index c.entry-item.result c.requires
    c.loop-entry-test.true c.entry-item.is

pub loop-entry-preserved : goal.loop-entry-preserved
loop-entry-preserved c =
    let both = entry_grouped c.args.store.now c.args.entries.now c.loop-entry.entry-index c.entry-item.result c.loop-entry.groups.keys
    c.group_place.new.groups.keys
    c.loop-entry.places.items c.push.new.self.items
    c.in_ok-place.place c.loop-entry-test.true c.entry-item.is c.in_ok-place.ensures.groups c.in_ok-place.ensures.place
    c.in_ok-push.ensures.items c.loop-entry.invariant.0 c.loop-entry.invariant.1 in
    (both.0, both.1, c.in_ok-place.ensures.known)

pub returns-clause-places : goal.returns-clause-places
returns-clause-places c =
    all_placed c.loop-entry.groups.keys (resolved [] c.args.store.now c.args.entries.now)
    (resolved [] c.args.store.now (drop c.loop-entry.entry-index c.args.entries.now)) c.loop-entry.places.items
    (ap (resolved [] c.args.store.now) (drop_all c.loop-entry.entry-index c.args.entries.now c.loop-entry-test.false)) c.loop-entry.invariant.1
