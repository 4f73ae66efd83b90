use Rattle.pq_apply.proofs.Choices.{chosen_choice}
use Rattle.pq_apply.proofs.choice.ite.Goals as goal

pub returns-clause-chooses : goal.returns-clause-chooses
returns-clause-chooses g c = chosen_choice c.args.store.now c.in_ok-id.ensures.keeps c.in_ok-id.ensures.chosen
