use Rattle.std.proofs.lemmas.Option.{slice_get_within}
use Rattle.pq_fields.specs.Packet.{has_field}
use Rattle.pq_fields.specs.Pred.{pred_tree}
use Rattle.pq_store.specs.Store.{HasAt}
use Rattle.pq_rewrite.specs.Choices.{field_needs}
use Rattle.pq_rewrite.proofs.Choosing.{IsCondition, chooses_by, fit_by, fits_node, predicate_condition}
use Rattle.pq_rewrite.proofs.presence.where_present.Given.{Over}
use Rattle.pq_rewrite.proofs.presence.where_present.Goals as goal
use Rattle.pq_rewrite.proofs.presence.where_present.Goals.{In_ok-has-in-Some}

-- the diagram of the predicate says whether a packet has the field
has_node : (g : Over) (c : In_ok-has-in-Some g)
    → HasAt (IsCondition (has_field c.args.field) (field_needs c.args.field)) c.pred_node.new.store c.in_ok-has-in-Some.has
has_node g c =
    let is = c.in-Some.ensures in
    predicate_condition (has_field c.args.field) (field_needs c.args.field) (pred_tree c.in-Some.pred) c.pred_node.new.store c.in_ok-has-in-Some.has
    is.tells is.within c.in_ok-has-in-Some.ensures.holds

pub pred_node-requires-clause-fits : goal.pred_node-requires-clause-fits
pred_node-requires-clause-fits g c =
    let is = c.in-Some.ensures in
    fits_node (field_needs c.args.field) (pred_tree c.in-Some.pred) c.args.store.now c.args.yes c.args.no is.within c.requires.yes c.requires.no c.requires.fit

pub ite-requires-clause-cond : goal.ite-requires-clause-cond
ite-requires-clause-cond g c =
    let at = c.in_ok-has-in-Some.ensures.holds in
    slice_get_within c.pred_node.new.store c.in_ok-has-in-Some.has at.0 at.1

pub ite-requires-clause-fit : goal.ite-requires-clause-fit
ite-requires-clause-fit g c =
    fit_by (has_field c.args.field) (field_needs c.args.field) c.pred_node.new.store c.in_ok-has-in-Some.has c.args.store.now c.args.yes c.args.no
    (has_node g (goal.at.ite-requires-clause-fit g c).In_ok-has-in-Some) c.requires.fit

pub returns-in_ok-id-in-Some-clause-chooses : goal.returns-in_ok-id-in-Some-clause-chooses
returns-in_ok-id-in-Some-clause-chooses g c =
    chooses_by (has_field c.args.field) (field_needs c.args.field) c.pred_node.new.store c.in_ok-has-in-Some.has c.args.store.now
    c.ite.new.store c.args.yes c.args.no c.in_ok-id-in-Some.id
    (has_node g (goal.at.returns-in_ok-id-in-Some-clause-chooses g c).In_ok-has-in-Some) c.in_ok-id-in-Some.ensures.chooses
