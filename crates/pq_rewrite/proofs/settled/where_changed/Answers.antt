use Rattle.std.proofs.lemmas.Option.{slice_get_within}
use Rattle.pq_store.specs.Store.{HasAt}
use Rattle.pq_apply.proofs.Kept.{within_still}
use Rattle.pq_lists.proofs.Places.{at_place}
use Rattle.pq_rewrite.specs.Choices.{ChoosesByAt, change_needs}
use Rattle.pq_rewrite.proofs.Changed.{choice_fits, chooses_changed, equal_condition, equal_tree, equal_within, fit_swapped, has_number}
use Rattle.pq_rewrite.proofs.Choosing.{IsCondition, chooses_by, fit_by, fits_node}
use Rattle.pq_rewrite.proofs.settled.where_changed.Goals as goal
use Rattle.pq_rewrite.proofs.settled.where_changed.Goals.{In_ok-differs, In_ok-same}

-- the first diagram says whether packets have this number in the field
same_node : (c : In_ok-same)
    → HasAt (IsCondition (has_number c.args.field c.args.value) (change_needs c.args.field c.args.value)) c.pred_node.new.store
    c.in_ok-same.same
same_node c = equal_condition c.args.field c.args.value c.pred_node.new.store c.in_ok-same.same c.in_ok-same.ensures.holds

-- the second chooses by it
chosen : (c : In_ok-differs)
    → HasAt (IsCondition (has_number c.args.field c.args.value) (change_needs c.args.field c.args.value)) c.pred_node.new.store
    c.in_ok-same.same
    → ChoosesByAt (has_number c.args.field c.args.value) (change_needs c.args.field c.args.value) c.args.store.now c.args.no c.args.yes
    c.ite.new.store c.in_ok-differs.differs
chosen c same =
    chooses_by (has_number c.args.field c.args.value) (change_needs c.args.field c.args.value) c.pred_node.new.store c.in_ok-same.same
    c.args.store.now c.ite.new.store
    c.args.no c.args.yes c.in_ok-differs.differs same c.in_ok-differs.ensures.chooses

pub pred_node-requires-clause-fits : goal.pred_node-requires-clause-fits
pred_node-requires-clause-fits c =
    let needs = change_needs c.args.field c.args.value in
    fits_node needs (equal_tree c.args.field c.args.value) c.args.store.now c.args.yes c.args.no
    (equal_within c.args.field c.args.value) c.requires.yes c.requires.no c.requires.fit

pub ite-requires-clause-cond : goal.ite-requires-clause-cond
ite-requires-clause-cond c = let at = c.in_ok-same.ensures.holds in slice_get_within c.pred_node.new.store c.in_ok-same.same at.0 at.1

pub ite-requires-clause-fit : goal.ite-requires-clause-fit
ite-requires-clause-fit c =
    let needs = change_needs c.args.field c.args.value in
    fit_by (has_number c.args.field c.args.value) needs c.pred_node.new.store c.in_ok-same.same c.args.store.now c.args.no c.args.yes
    (same_node (goal.at.ite-requires-clause-fit c).In_ok-same) (fit_swapped needs c.args.store.now c.args.yes c.args.no c.requires.fit)

pub where_present-requires-clause-yes : goal.where_present-requires-clause-yes
where_present-requires-clause-yes c =
    let at = goal.at.where_present-requires-clause-yes c in
    let y = at_place c.args.store.now c.args.yes c.requires.yes in
    let n = at_place c.args.store.now c.args.no c.requires.no in
    let made = chosen at.In_ok-differs (same_node at.In_ok-same) n.0 y.0 n.1 y.1 in
    slice_get_within c.ite.new.store c.in_ok-differs.differs made.0 made.1

pub where_present-requires-clause-no : goal.where_present-requires-clause-no
where_present-requires-clause-no c = within_still c.args.store.now c.ite.new.store c.args.no c.in_ok-differs.ensures.keeps c.requires.no

pub where_present-requires-clause-fit : goal.where_present-requires-clause-fit
where_present-requires-clause-fit c =
    let at = goal.at.where_present-requires-clause-fit c in
    choice_fits c.args.field c.args.value c.args.store.now c.ite.new.store c.args.yes c.args.no c.in_ok-differs.differs c.requires.yes c.requires.no
    c.in_ok-differs.ensures.keeps c.requires.fit (chosen at.In_ok-differs (same_node at.In_ok-same))

pub returns-clause-chooses : goal.returns-clause-chooses
returns-clause-chooses c =
    let at = goal.at.returns-clause-chooses c in
    chooses_changed c.args.field c.args.value c.args.store.now c.ite.new.store c.where_present.new.store c.args.yes c.args.no
    c.in_ok-differs.differs c.in_ok-id.id
    c.in_ok-differs.ensures.keeps (chosen at.In_ok-differs (same_node at.In_ok-same)) c.in_ok-id.ensures.chooses
