use Rattle.std.proofs.Common.{◌∙◌, ap, sym}
use Rattle.std.proofs.lemmas.Result.{on_ok_weaker}
use Rattle.pq_query.specs.Counts.{on_groups, with_values}
use Rattle.pq_query.proofs.Counted.{groups_append}
use Rattle.pq_query.proofs.values.push_both.Goals as goal

pub returns : goal.returns
returns c =
    let step = with_values c.args.datapaths.now c.args.ports.now in
    on_ok_weaker c.push_groups-2.result (λ e. e
    ∙ (ap (on_groups step c.args.others.now) c.in_ok-push_groups.ensures
    ∙ sym (groups_append step c.args.groups.now c.args.others.now c.args.into.now.items))) c.push_groups-2.ensures
