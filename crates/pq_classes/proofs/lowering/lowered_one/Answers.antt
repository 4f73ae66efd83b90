use Rattle.std.proofs.Common.{◌≡◌, ◌<◌, ◌++◌, arith, subst, sym, length, map, IfOk, OnOk, Some, slice_get}
use Rattle.pq_fields.specs.Pred.{pred_tree}
use Rattle.pq_expr.specs.Expr.{expr_tree}
use Rattle.pq_lower.specs.Added.{added_preds}
use Rattle.pq_query.specs.Instances.{named_trees}
use Rattle.pq_query.specs.Query.{QueryTree}
use Rattle.pq_model.specs.Buckets.{Instance}
use Rattle.pq_classes.specs.Lowered.{IsLowered}
use Rattle.pq_classes.proofs.OneLowered.{asked, few_atoms, one_added, one_grown, one_lowered}
use Rattle.pq_classes.proofs.lowering.lowered_one.Goals as goal

-- the query's place is one of the list
pub lower-requires-clause-atoms : goal.lower-requires-clause-atoms
lower-requires-clause-atoms c =
    let within = subst (λ (i : Instance). i.query < length c.args.queries.now) (sym c.instance.view_is) c.requires.within in
    let few = few_atoms c.args.queries.now c.instance.inside.query c.index-queries-instance.result within c.requires.atoms in
    omega (arith, few)

pub returns-clause-lowered : goal.returns-clause-lowered
returns-clause-lowered c =
    let qs = named_trees c.args.queries.now in
    let within = subst (λ (i : Instance). i.query < length c.args.queries.now) (sym c.instance.view_is) c.requires.within in
    let at = asked c.args.queries.now c.instance.inside.query c.index-queries-instance.result within in
    subst (λ (i : Instance). IfOk c.lower.result (λ e. IsLowered qs (map pred_tree c.lower.new.preds.items) i (expr_tree e))) c.instance.view_is
    (one_lowered qs _ _ at c.lower.result c.lower.new.preds.items c.lower.ensures.bound c.lower.ensures.language)

pub returns-clause-added : goal.returns-clause-added
returns-clause-added c =
    let qs = named_trees c.args.queries.now in
    let within = subst (λ (i : Instance). i.query < length c.args.queries.now) (sym c.instance.view_is) c.requires.within in
    let at = asked c.args.queries.now c.instance.inside.query c.index-queries-instance.result within in
    subst (λ (i : Instance). OnOk c.lower.result ((p : QueryTree) → slice_get qs i.query ≡ Some p
    → map pred_tree c.lower.new.preds.items ≡ map pred_tree c.args.preds.now.items ++ added_preds p i.label)) c.instance.view_is
    (one_added qs _ _ at c.lower.result (map pred_tree c.args.preds.now.items) (map pred_tree c.lower.new.preds.items) c.lower.ensures.added)

pub returns-clause-few : goal.returns-clause-few
returns-clause-few c =
    let within = subst (λ (i : Instance). i.query < length c.args.queries.now) (sym c.instance.view_is) c.requires.within in
    let few = few_atoms c.args.queries.now c.instance.inside.query c.index-queries-instance.result within c.requires.atoms in
    one_grown c.lower.result c.args.preds.now.items c.lower.new.preds.items _ few c.lower.ensures.grown
