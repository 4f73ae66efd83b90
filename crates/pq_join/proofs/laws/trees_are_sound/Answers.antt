use Rattle.pq_join.proofs.Soundness.{arriving_are_sound, leaving_are_sound}
use Rattle.pq_join.proofs.laws.trees_are_sound.Goals as goal

pub returns-clause-arriving : goal.returns-clause-arriving
returns-clause-arriving c = arriving_are_sound

pub returns-clause-leaving : goal.returns-clause-leaving
returns-clause-leaving c = leaving_are_sound
