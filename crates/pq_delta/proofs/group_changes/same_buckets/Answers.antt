use Rattle.std.proofs.Common.{◌∙◌}
use Rattle.pq_delta.specs.Equal.{same_actions}
use Rattle.pq_delta.proofs.StepLemmas.{mapped}
use Rattle.pq_delta.proofs.group_changes.same_buckets.Goals as goal

pub returns : goal.returns
returns c = c.eq.ensures ∙ mapped same_actions (λ b. b.items) c.args.one.now c.args.other.now
