use Rattle.std.proofs.Common.{◌∙◌}
use Rattle.pq_switch.proofs.Lookups.{some-shown}
use Rattle.pq_switch.proofs.groups.Groups.numbers.Goals as goal

pub returns : goal.returns
returns c = λ n. rw (← c.self.view_is) (some-shown (λ v. v.items) c.self.inside.buckets n ∙ c.keys.ensures.has n)
