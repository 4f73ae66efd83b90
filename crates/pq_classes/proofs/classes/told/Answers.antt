use Rattle.std.proofs.Common.{map, subst, sym}
use Rattle.std.specs.Prelude.{All}
use Rattle.pq_fields.specs.Pred.{pred_tree}
use Rattle.pq_expr.specs.Expr.{expr_tree}
use Rattle.pq_query.specs.Instances.{named_trees}
use Rattle.pq_classes.specs.Lowered.{AreLowered, IsAdded}
use Rattle.pq_classes.proofs.Ignoring.{letters_ignore}
use Rattle.pq_classes.proofs.Whole.{few_exprs, joined, preds_lawful, preds_room, preds_within, within_trees}
use Rattle.pq_classes.proofs.classes.told.Goals as goal

pub letters_of-requires-clause-lawful : goal.letters_of-requires-clause-lawful
letters_of-requires-clause-lawful g c =
    let qs = named_trees c.args.queries.now in
    let is = c.args.all.now in
    let added = subst (λ ps. All (IsAdded qs is) (map pred_tree ps)) (sym c.deref.ensures.value) c.in_ok-lowered.ensures.added in
    preds_lawful c.args.topology.now qs is (map pred_tree c.deref.result.now) c.switches-named.ensures.lawful c.requires.instances c.requires.lawful added

pub letters_of-requires-clause-fits : goal.letters_of-requires-clause-fits
letters_of-requires-clause-fits g c =
    let qs = named_trees c.args.queries.now in
    let is = c.args.all.now in
    let added = subst (λ ps. All (IsAdded qs is) (map pred_tree ps)) (sym c.deref.ensures.value) c.in_ok-lowered.ensures.added in
    preds_room c.args.topology.now qs is (map pred_tree c.deref.result.now) c.requires.instances c.requires.fits added

pub classes_of-requires : goal.classes_of-requires
classes_of-requires g c =
    let qs = named_trees c.args.queries.now in
    let is = c.args.all.now in
    let ps = map pred_tree c.in_ok-lowered.lowered.preds.items in
    few_exprs qs ps is c.deref-2.result.now
    (subst (λ es. AreLowered qs ps is (map expr_tree es)) (sym c.deref-2.ensures.value) c.in_ok-lowered.ensures.lowered) c.requires.few

-- letters, expressions and the automaton together
pub returns-clause-classes : goal.returns-clause-classes
returns-clause-classes g c =
    let qs = named_trees c.args.queries.now in
    let is = c.args.all.now in
    let ps = map pred_tree c.deref.result.now in
    let es = map expr_tree c.deref-2.result.now in
    let lowered : AreLowered qs ps is es =
    subst (λ ds. AreLowered qs (map pred_tree ds) is es) (sym c.deref.ensures.value)
    (subst (λ ds. AreLowered qs (map pred_tree c.in_ok-lowered.lowered.preds.items) is (map expr_tree ds))
    (sym c.deref-2.ensures.value) c.in_ok-lowered.ensures.lowered) in
    joined qs ps is es c.in_ok-letters.letters c.in_ok-classes.classes
    (within_trees c.args.queries.now is c.requires.within) lowered c.count.ensures.lettered c.in_ok-letters.ensures.tells
    c.in_ok-classes.ensures

pub returns-clause-tests : goal.returns-clause-tests
returns-clause-tests g c = λ t at ns ported within.
    let qs = named_trees c.args.queries.now in
    let is = c.args.all.now in
    let added = subst (λ ps. All (IsAdded qs is) (map pred_tree ps)) (sym c.deref.ensures.value) c.in_ok-lowered.ensures.added in
    c.in_ok-letters.ensures.tests t at ns
    (preds_within ns c.args.topology.now qs is (map pred_tree c.deref.result.now) c.requires.instances ported within added)

pub returns-clause-ignores : goal.returns-clause-ignores
returns-clause-ignores g c = letters_ignore (map pred_tree c.deref.result.now) c.in_ok-letters.letters c.count.ensures.lettered c.in_ok-letters.ensures.tells
