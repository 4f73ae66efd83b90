use Rattle.std.proofs.Common.{◌∙◌, ap}
use Rattle.pq_model.specs.Buckets.{entry_numbers}
use Rattle.pq_model.specs.Sorting.{sort_by}
use Rattle.pq_net.specs.Hops.{carries, delivers, collects}
use Rattle.pq_net.proofs.Copies.{carries-all, delivers-all, collects-all, none_left}
use Rattle.pq_net.proofs.hops.additions.Goals as goal

pub returns : goal.returns
returns c =
    let t = c.args.wiring.now in
    let report = c.args.report.now in
    let sent = c.args.sent.now in
    let past = c.loop-copy-test.false in
    let flight = none_left (carries t) c.loop-copy.flight.items sent c.loop-copy.copy-index past c.loop-copy.invariant.flight in
    let delivered = none_left (delivers t) c.loop-copy.delivered.items sent c.loop-copy.copy-index past c.loop-copy.invariant.delivered in
    let buckets = none_left (collects report) c.loop-copy.buckets.items sent c.loop-copy.copy-index past c.loop-copy.invariant.buckets in
    λ i. record {
      flight = (flight ∙ carries-all t sent) i;
      delivered = (delivered ∙ delivers-all t sent) i;
      buckets = (c.in_ok-sort.ensures ∙ ap (sort_by entry_numbers) (buckets ∙ collects-all report sent)) i;
    }
