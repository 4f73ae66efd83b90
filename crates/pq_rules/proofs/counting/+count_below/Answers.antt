use Rattle.std.proofs.Common.{◌==◌, eqb-true}
use Rattle.pq_apply.proofs.Remembered.{remembers_more}
use Rattle.pq_rules.specs.Counts.{CountsAt}
use Rattle.pq_rules.proofs.CountsLemmas.{sides_count}
use Rattle.pq_rules.proofs.counting.+count_below.Goals as goal

pub returns-in_ok-remember-in-Node-clause-counts : goal.returns-in_ok-remember-in-Node-clause-counts
returns-in_ok-remember-in-Node-clause-counts g t c =
    let counted = sides_count c.args.store.now c.args.node c.in-Node.yes c.in-Node.no c.in-Node.field-0 c.in_ok-passed-in-Node.passed
    c.in_ok-failed-in-Node.failed c.saturating_add-count.result
    c.in-Node.ensures.shows c.in_ok-passed-in-Node.ensures.count c.in_ok-failed-in-Node.ensures.count c.saturating_add-count.ensures in
    remembers_more (λ x y. x == y) (CountsAt c.args.store.now) c.count_below-in-Node.new.counts c.remember.new.noted c.args.node
    c.saturating_add-count.result eqb-true
    c.in_ok-failed-in-Node.ensures.counts counted c.in_ok-remember-in-Node.ensures
