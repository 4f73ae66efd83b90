use Rattle.pq_fields.specs.Pred.{pred_tree}
use Rattle.diagram_sizes.proofs.Numbers.{numbers_fit}
use Rattle.diagram_sizes.proofs.sizes.list_sizes.Goals as goal

pub sizes_of-requires-clause-fits : goal.sizes_of-requires-clause-fits
sizes_of-requires-clause-fits c = numbers_fit c.args.tested c.args.count (pred_tree c.in_ok-pred.pred) c.requires.testable c.in_ok-pred.ensures
