use Rattle.pq_rewrite.proofs.Examples.{example_after}
use Rattle.call_tests.proofs.rewriting.after_writing.Goals as goal

pub after-requires-clause-fits : goal.after-requires-clause-fits
after-requires-clause-fits c = example_after c.set-writes.result c.args.from.now c.args.node c.requires.example
