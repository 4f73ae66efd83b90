use Rattle.pq_switch.proofs.Lookups.{shown-insert}
use Rattle.pq_switch.proofs.groups.Groups.put.Goals as goal

pub returns-clause-ok : goal.returns-clause-ok
returns-clause-ok c =
    rw (← c.self.view_is)
    (shown-insert (λ v. v.items) c.self.inside.buckets c.insert.new.self c.args.number c.args.buckets c.in_ok-insert.ensures.updates)
