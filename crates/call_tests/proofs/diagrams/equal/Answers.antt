use Rattle.pq_apply.proofs.Examples.{equal_example}
use Rattle.call_tests.proofs.diagrams.equal.Goals as goal

pub returns : goal.returns
returns c = equal_example c.args.field c.args.value c.requires.fits c.requires.known
