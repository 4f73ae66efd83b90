use Rattle.std.proofs.lemmas.Option.{slice_get_within}
use Rattle.pq_fields.specs.Pred.{pred_tree}
use Rattle.pq_forward.proofs.Conditions.{choice_fits, chooses_by_pred, pred_fits}
use Rattle.pq_forward.proofs.policies.chosen.Goals as goal

pub pred_node-requires-clause-fits : goal.pred_node-requires-clause-fits
pred_node-requires-clause-fits c = pred_fits (pred_tree c.args.pred.now) c.args.store.now c.args.yes c.args.no c.requires.fit c.requires.yes c.requires.no

pub ite-requires-clause-cond : goal.ite-requires-clause-cond
ite-requires-clause-cond c =
    let told = c.in_ok-condition.ensures.holds in
    slice_get_within c.pred_node.new.store c.in_ok-condition.condition told.0 told.1

pub ite-requires-clause-fit : goal.ite-requires-clause-fit
ite-requires-clause-fit c =
    choice_fits (pred_tree c.args.pred.now) c.args.store.now c.args.yes c.args.no c.requires.fit c.pred_node.new.store
    c.in_ok-condition.condition c.in_ok-condition.ensures.holds

pub returns-clause-chooses : goal.returns-clause-chooses
returns-clause-chooses c =
    chooses_by_pred (pred_tree c.args.pred.now) c.args.store.now c.args.yes c.args.no c.requires.fit c.pred_node.new.store
    c.in_ok-condition.condition c.in_ok-condition.ensures.holds
    c.ite.new.store c.in_ok-id.id c.in_ok-id.ensures.chooses
