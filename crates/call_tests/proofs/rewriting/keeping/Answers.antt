use Rattle.std.proofs.lemmas.Option.{slice_get_within}
use Rattle.pq_apply.proofs.Examples.{one_fits}
use Rattle.pq_rewrite.proofs.Examples.{keeping_example}
use Rattle.call_tests.proofs.rewriting.keeping.Goals as goal

pub keep-requires-clause-cond : goal.keep-requires-clause-cond
keep-requires-clause-cond c = let example = c.requires in slice_get_within c.args.tests.now c.args.cond example.0 example.1

pub keep-requires-clause-fits : goal.keep-requires-clause-fits
keep-requires-clause-fits c = one_fits c.args.tests.now c.args.cond c.requires

pub returns-clause-example : goal.returns-clause-example
returns-clause-example c = keeping_example c.args.tests.now c.args.cond c.keep.new.store c.in_ok-id.id c.requires c.in_ok-id.ensures.keeps_where
