use Rattle.std.proofs.lemmas.Option.{slice_get_within}
use Rattle.pq_apply.proofs.Examples.{two_fit}
use Rattle.call_tests.proofs.diagrams.with_itself.Goals as goal

pub product-requires-clause-x : goal.product-requires-clause-x
product-requires-clause-x c = let example = c.requires in slice_get_within c.args.from.now c.args.node example.0 example.1

pub product-requires-clause-y : goal.product-requires-clause-y
product-requires-clause-y c = let example = c.requires in slice_get_within c.args.from.now c.args.node example.0 example.1

pub product-requires-clause-fit : goal.product-requires-clause-fit
product-requires-clause-fit c = two_fit c.args.from.now c.args.from.now c.args.node c.args.node c.requires c.requires
