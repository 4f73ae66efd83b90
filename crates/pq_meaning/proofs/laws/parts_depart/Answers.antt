use Rattle.pq_rewrite.proofs.Turns.{giving_idle_free}
use Rattle.pq_meaning.specs.Parts.{any_yields}
use Rattle.pq_meaning.proofs.Departing.{parts_depart}
use Rattle.pq_meaning.proofs.laws.parts_depart.Goals as goal

pub returns : goal.returns
returns c = record { departures = parts_depart; idle_free = λ T ps t united. giving_idle_free (any_yields T ps) t united.giving }
