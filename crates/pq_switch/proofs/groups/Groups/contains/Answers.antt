use Rattle.std.proofs.Common.{sym, ◌∙◌}
use Rattle.pq_switch.proofs.Lookups.{some-shown}
use Rattle.pq_switch.proofs.groups.Groups.contains.Goals as goal

pub returns : goal.returns
returns c = rw (← c.self.view_is) (c.contains_key.ensures ∙ sym (some-shown (λ v. v.items) c.self.inside.buckets c.args.number))
