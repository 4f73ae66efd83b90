use Rattle.pq_store.proofs.Ignored.{untested}
use Rattle.pq_store.proofs.laws.ignored_fields_are_untested.Goals as goal

pub returns : goal.returns
returns g c = untested
