use Rattle.std.proofs.Common.{ap}
use Rattle.pq_install.proofs.RowLists.{row_follows}
use Rattle.pq_install.proofs.read.report.may_follow.Goals as goal

pub returns : goal.returns
returns c =
    let f = row_follows c.args.queries c.args.before.now c.args.row.now c.requires.before in
    let above = rw (ap (λ r. r.tag) c.row.view_is) at c.comes_after.ensures in
    (λ last. f.0 (c.is_row.ensures.0 c.if-not-is_row.false, above.0 last), λ are. above.1 (f.1 are).1)
