use Rattle.pq_fields.specs.Pred.{IsLawfulPred}
use Rattle.pq_classes.proofs.Signed.{at_pred, one_node, pred_room}
use Rattle.pq_classes.proofs.letters.nodes.Goals as goal

pub pred_node-requires-clause-lawful : goal.pred_node-requires-clause-lawful
pred_node-requires-clause-lawful c =
    at_pred IsLawfulPred c.args.preds.now c.loop-pred.pred-index c.pred-item.result c.loop-pred-test.true c.pred-item.is c.requires.lawful

pub pred_node-requires-clause-fits : goal.pred_node-requires-clause-fits
pred_node-requires-clause-fits c = pred_room c.args.preds.now c.loop-pred.pred-index c.pred-item.result c.loop-pred-test.true c.pred-item.is c.requires.fits

-- one more diagram, which keeps the others
pub loop-pred-preserved : goal.loop-pred-preserved
loop-pred-preserved c =
    let keeps = c.pred_node.ensures.keeps in
    record {
      nodes = one_node c.loop-pred.tests c.pred_node.new.store c.args.preds.now c.loop-pred.pred-index c.pred-item.result
          c.loop-pred.ids.items c.push.new.self.items c.in_ok-id.id c.loop-pred-test.true c.pred-item.is keeps c.in_ok-push.ensures.items
          c.in_ok-id.ensures.holds c.loop-pred.invariant.nodes;
      keeps = λ k t at. keeps k t (c.loop-pred.invariant.keeps k t at);
    }
