use Rattle.std.proofs.Common.{map, subst, sym}
use Rattle.pq_fields.specs.Pred.{pred_tree}
use Rattle.pq_classes.proofs.Signed.{AreNodes, nodes_room, nodes_within, partition_tells, trees_within}
use Rattle.pq_classes.proofs.letters.letters_of.Goals as goal

pub partition-requires-clause-within : goal.partition-requires-clause-within
partition-requires-clause-within c = nodes_within c.nodes.new.tests (map pred_tree c.args.preds.now) c.deref.result.now
    (subst (AreNodes c.nodes.new.tests (map pred_tree c.args.preds.now)) (sym c.deref.ensures.value) c.in_ok-ids.ensures.nodes)

pub partition-requires-clause-fits : goal.partition-requires-clause-fits
partition-requires-clause-fits c = nodes_room c.nodes.new.tests (map pred_tree c.args.preds.now) c.deref.result.now
    (subst (AreNodes c.nodes.new.tests (map pred_tree c.args.preds.now)) (sym c.deref.ensures.value) c.in_ok-ids.ensures.nodes)
    c.requires.fits

pub returns-clause-tells : goal.returns-clause-tells
returns-clause-tells c =
    partition_tells c.nodes.new.tests (map pred_tree c.args.preds.now) c.deref.result.now c.in_ok-letters.letters
    (subst (AreNodes c.nodes.new.tests (map pred_tree c.args.preds.now)) (sym c.deref.ensures.value) c.in_ok-ids.ensures.nodes)
    c.in_ok-letters.ensures.partition

pub returns-clause-keeps : goal.returns-clause-keeps
returns-clause-keeps c = λ k t at. c.partition.ensures.keeps k t (c.nodes.ensures.keeps k t at)

pub returns-clause-tests : goal.returns-clause-tests
returns-clause-tests c = λ t at ns within.
    c.in_ok-letters.ensures.partition.tests t at ns
    (trees_within ns c.nodes.new.tests (map pred_tree c.args.preds.now) c.deref.result.now
    (subst (AreNodes c.nodes.new.tests (map pred_tree c.args.preds.now)) (sym c.deref.ensures.value) c.in_ok-ids.ensures.nodes) within)
