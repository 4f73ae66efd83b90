use Rattle.pq_values.specs.Stated.{stated}
use Rattle.pq_values.proofs.Firsts.{few_stated}
use Rattle.pq_values.proofs.Rooms.{have_room}
use Rattle.pq_values.proofs.laws.stated_values_have_room.Goals as goal

pub returns : goal.returns
returns c = λ T ps qs over none. have_room T ps qs over (few_stated (stated T ps qs) none)
