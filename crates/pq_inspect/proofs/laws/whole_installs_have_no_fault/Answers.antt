use Rattle.pq_inspect.proofs.Unspoiled.{not_spoiled}
use Rattle.pq_inspect.proofs.laws.whole_installs_have_no_fault.Goals as goal

pub returns : goal.returns
returns c = not_spoiled
