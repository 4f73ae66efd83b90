use Rattle.pq_policy.specs.Policy.{yields}
use Rattle.pq_policy.proofs.OneList.{one_list}
use Rattle.pq_policy.proofs.laws.policies_yield_one_list.Goals as goal

pub returns : goal.returns
returns c = λ t p x. one_list (yields t p x)
