use Rattle.pq_install.proofs.Whole.{install_in, lawful_at_front, rest_left}
use Rattle.pq_install.proofs.read.whole.read_install.Goals as goal

pub returns-in-Ok-clause-ok : goal.returns-in-Ok-clause-ok
returns-in-Ok-clause-ok c = install_in c.args.bytes.now c.in-Ok.install c.in-Ok.rest.now c.in-Ok.ensures.ok

pub returns-in-Ok-clause-lawful : goal.returns-in-Ok-clause-lawful
returns-in-Ok-clause-lawful c = lawful_at_front c.args.bytes.now c.in-Ok.install c.in-Ok.rest.now c.in-Ok.ensures.ok

pub returns-in-Ok-clause-front : goal.returns-in-Ok-clause-front
returns-in-Ok-clause-front c = rest_left c.args.bytes.now c.in-Ok.install c.in-Ok.rest.now c.in-Ok.ensures.ok
