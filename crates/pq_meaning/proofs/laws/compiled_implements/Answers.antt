use Rattle.pq_meaning.proofs.Implemented.{compiled}
use Rattle.pq_meaning.proofs.laws.compiled_implements.Goals as goal

pub returns : goal.returns
returns c = compiled c.switch_sends.ensures
