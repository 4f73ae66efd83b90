use Rattle.std.proofs.Common.{ap₂}
use Rattle.pq_deriv.specs.Left.{left}
use Rattle.pq_deriv.specs.Order.{same_state, state_rests}
use Rattle.pq_deriv.proofs.laws.equal_states_of_one_expression_are_one.Goals as goal

pub returns-clause-one : goal.returns-clause-one
returns-clause-one c = same_state

pub returns-clause-words : goal.returns-clause-words
returns-clause-words c = λ a b expr same. (state_rests a b same, λ w. ap₂ (λ e r. left e r w) expr (state_rests a b same))
