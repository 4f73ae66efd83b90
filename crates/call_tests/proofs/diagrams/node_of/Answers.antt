use Rattle.std.proofs.lemmas.Option.{slice_get_within}
use Rattle.pq_fields.specs.Pred.{pred_tree}
use Rattle.pq_apply.proofs.Examples.{example_at, example_fits}
use Rattle.call_tests.proofs.diagrams.node_of.Goals as goal

pub pred_node-requires-clause-fits : goal.pred_node-requires-clause-fits
pred_node-requires-clause-fits c = example_fits (pred_tree c.args.pred.now) c.requires

pub returns-clause-example : goal.returns-clause-example
returns-clause-example c = example_at (pred_tree c.args.pred.now) c.pred_node.new.store c.in_ok-id.id c.requires c.in_ok-id.ensures.holds

pub returns-clause-within : goal.returns-clause-within
returns-clause-within c = let found = c.in_ok-id.ensures.holds in slice_get_within c.pred_node.new.store c.in_ok-id.id found.0 found.1
