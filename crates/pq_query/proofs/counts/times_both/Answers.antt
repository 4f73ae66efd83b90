use Rattle.std.proofs.Common.{◌∙◌, ap, sym}
use Rattle.pq_query.specs.Counts.{on_groups, times}
use Rattle.pq_query.proofs.Counted.{groups_append}
use Rattle.pq_query.proofs.counts.times_both.Goals as goal

pub returns : goal.returns
returns c = c.times_groups.ensures ∙ (ap (on_groups (times c.args.sizes) c.args.others.now) c.times_groups-product.ensures
    ∙ sym (groups_append (times c.args.sizes) c.args.groups.now c.args.others.now c.args.count))
