use Rattle.std.proofs.Common.{[], sym, ◌∙◌}
use Rattle.pq_rules.specs.Grouping.{leaf_at}
use Rattle.pq_rules.proofs.GroupingLemmas.{noted_more, noted_stays}
use Rattle.pq_rules.proofs.grouping.group_place.Goals as goal

pub returns-in-Some-clause-groups : goal.returns-in-Some-clause-groups
returns-in-Some-clause-groups c =
    sym (noted_stays c.args.groups.now.keys (leaf_at [] c.args.store.now c.args.leaf) c.in-Some.place
    (c.requires.known c.args.leaf c.in-Some.place (sym c.recall.ensures ∙ c.in-Some.is)))

pub returns-clause-known : goal.returns-clause-known
returns-clause-known c =
    noted_more c.args.groups.now.keys c.add_group.new.groups.keys c.args.store.now c.args.known.now c.remember.new.noted c.args.leaf
    c.in_ok-place.place c.leaf_copies-copies.result.now
    c.leaf_copies-copies.ensures c.if-copies-lt2.false c.in_ok-place.ensures.groups c.in_ok-place.ensures.place c.requires.known c.in_ok-remember.ensures
