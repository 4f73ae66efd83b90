use Rattle.std.proofs.Common.{◌∙◌, ap}
use Rattle.std.specs.Ordering.{is_lt}
use Rattle.pq_install.proofs.LabelOrder.{label_order}
use Rattle.pq_install.proofs.read.report.label_is_below.Goals as goal

pub returns : goal.returns
returns c = c.is_lt.ensures ∙ (ap is_lt c.cmp.ensures ∙ label_order c.args.a.now c.args.b.now)
