use Rattle.pq_switch.specs.Namings.{naming}
use Rattle.pq_switch.proofs.Noted.{grows-added}
use Rattle.pq_switch.proofs.naming.add.Goals as goal

pub returns-clause-ok : goal.returns-clause-ok
returns-clause-ok c = c.in_ok-insert.ensures.updates.1

pub returns-clause-kept : goal.returns-clause-kept
returns-clause-kept c = grows-added c.args.index.now.keys c.insert.new.self.keys (naming c.args.group c.args.place) c.in_ok-insert.ensures.updates.0
