use Rattle.pq_fields.specs.declared.pred.Pred.TheVariants as pred
use Rattle.pq_fields.specs.Pred.{pred_tree}
use Rattle.pq_apply.proofs.Examples.{equal_example, example_at, example_fits}
use Rattle.call_tests.proofs.rewriting.equal.Goals as goal

pub pred_node-requires-clause-lawful : goal.pred_node-requires-clause-lawful
pred_node-requires-clause-lawful c = (equal_example c.args.field c.args.value c.requires.fits c.requires.known).lawful

pub pred_node-requires-clause-fits : goal.pred_node-requires-clause-fits
pred_node-requires-clause-fits c =
    example_fits (pred_tree (pred.Equal c.args.field c.args.value)) (equal_example c.args.field c.args.value c.requires.fits c.requires.known)

pub returns : goal.returns
returns c =
    example_at (pred_tree (pred.Equal c.args.field c.args.value)) c.pred_node.new.store c.in_ok-id.id
    (equal_example c.args.field c.args.value c.requires.fits c.requires.known) c.in_ok-id.ensures.holds
