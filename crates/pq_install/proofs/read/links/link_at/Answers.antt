use Rattle.pq_install.proofs.LinkUnits.{no_first_end, no_second_end}
use Rattle.pq_install.proofs.read.links.link_at.Goals as goal

pub returns-in_default : goal.returns-in_default
returns-in_default c = no_first_end c.args.bytes.now c.in_default.ensures

pub returns-in_default-end_at : goal.returns-in_default-end_at
returns-in_default-end_at c = no_second_end c.args.bytes.now _ _ c.in-Some.ensures c.in_default-end_at.ensures
