use Rattle.std.proofs.Common.{ap, sym, ◌∙◌}
use Rattle.pq_net.proofs.Found.{row_found, row_absent}
use Rattle.pq_net.proofs.lookups.pairs_of.Goals as goal

-- the row that was found tells its instances
pub returns-in-Some : goal.returns-in-Some
returns-in-Some c =
    let row = c.index-report-index.result in
    c.deref.ensures.value
    ∙ (ap (λ r. r.pairs) (c.row.view_is ∙ c.index-report-index.is)
    ∙ sym (row_found c.args.report.now c.args.tag c.in-Some.index row c.requires c.in-Some.ensures))

pub returns-in-None : goal.returns-in-None
returns-in-None c = sym (row_absent c.args.report.now c.args.tag c.in-None.ensures)
