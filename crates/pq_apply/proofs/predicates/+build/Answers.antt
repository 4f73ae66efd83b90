use Rattle.std.proofs.Common.{◌≡◌, ◌∙◌, ◌+◌, drop, [], ◌∷◌, ◌++◌, append_assoc, sym, ap, subst}
use Rattle.std.proofs.lemmas.List.{append-nil}
use Rattle.pq_fields.specs.Pred.PredTop.{Negated}
use Rattle.pq_apply.specs.Predicates.{HoldsAt}
use Rattle.pq_fields.specs.declared.pred.Pred.TheOpen.{Pred-F}
use Rattle.pq_fields.specs.declared.pred.Pred.TheFolds.{fold-roll-Pred}
use Rattle.pq_fields.specs.declared.pred.Pred.TheVariants.{rolls-Not}
use Rattle.pq_fields.specs.Pred.{PredTree, pred_step, preds, pred_tree, pred_trees, AreLawful}
use Rattle.pq_apply.specs.Operands.{FitAsNodes, HoldAt}
use Rattle.pq_apply.proofs.Kept.{keeps_on}
use Rattle.pq_apply.proofs.PredTrees.{rest_fit, one_of, none_of, hold_within, hold_fit, hold_joined, negated_node}
use Rattle.pq_apply.proofs.predicates.+build.Goals as goal

pub build-returns-in_ok-id-in-Not-clause-holds : goal.build-returns-in_ok-id-in-Not-clause-holds
build-returns-in_ok-id-in-Not-clause-holds t c =
    let inner = pred_tree c.in-Not.pred.value in
    let tree : PredTree = record { top = Negated; below = preds (inner ∷ []) } in
    let is : pred_tree c.args.pred.now ≡ tree = ap pred_tree (c.in-Not.is ∙ sym (rolls-Not c.in-Not.pred))
    ∙ fold-roll-Pred PredTree pred_step (Pred-F.Not c.in-Not.pred) in
    subst (λ p. HoldsAt p c.recoded.new.into c.in_ok-id-in-Not.id) (sym is)
    (negated_node inner c.build.new.store c.recoded.new.into c.in_ok-inner-in-Not.inner c.in_ok-id-in-Not.id
    (rw c.deref-in-Not.ensures at c.in_ok-inner-in-Not.ensures.holds) c.in_ok-id-in-Not.ensures.recodes)

pub build_all-loop-pred-preserved : goal.build_all-loop-pred-preserved
build_all-loop-pred-preserved t c =
    let pred = c.pred-item.result in
    let rest = pred_trees (drop (c.loop-pred.pred-index + 1) c.args.preds.now) in
    let one = one_of c.args.preds.now c.loop-pred.pred-index pred c.loop-pred-test.true c.pred-item.is in
    let lawful = subst AreLawful one c.loop-pred.invariant.lawful in
    record {
      lawful = lawful.2;
      fits = rest_fit (pred_tree pred).top (pred_tree pred).below rest (subst FitAsNodes one c.loop-pred.invariant.fits);
      hold = λ us kept more hold.
          let here = c.in_ok-node.ensures.holds in
          let all : HoldAt (pred_trees c.args.preds.now) us (c.loop-pred.nodes.items ++ c.in_ok-node.node ∷ more) =
          c.loop-pred.invariant.hold us (keeps_on c.loop-pred.store c.build.new.store us c.build.ensures.keeps kept) (c.in_ok-node.node ∷ more)
          (subst (λ ps. HoldAt ps us (c.in_ok-node.node ∷ more)) (sym one) ((here.0, kept c.in_ok-node.node here.0 here.1, here.2), hold)) in
          let longer : c.push.new.self.items ++ more ≡ c.loop-pred.nodes.items ++ c.in_ok-node.node ∷ more =
          ap (λ ids. ids ++ more) c.in_ok-push.ensures.items ∙ append_assoc c.loop-pred.nodes.items (c.in_ok-node.node ∷ []) more in
          subst (HoldAt (pred_trees c.args.preds.now) us) (sym longer) all;
      keeps = keeps_on c.args.store.now c.loop-pred.store c.build.new.store c.loop-pred.invariant.keeps c.build.ensures.keeps;
      scratch = keeps_on c.args.scratch.now c.loop-pred.scratch c.build.new.scratch c.loop-pred.invariant.scratch c.build.ensures.scratch;
    }

pub build_all-returns-clause-hold : goal.build_all-returns-clause-hold
build_all-returns-clause-hold t c =
    let done = none_of c.args.preds.now c.loop-pred.pred-index c.loop-pred-test.false in
    let all = c.loop-pred.invariant.hold c.loop-pred.store (λ k u is. is) [] (subst (λ ps. HoldAt ps c.loop-pred.store []) (sym done) tt) in
    subst (HoldAt (pred_trees c.args.preds.now) c.loop-pred.store) (append-nil c.loop-pred.nodes.items) all

pub join-junction-requires-clause-within : goal.join-junction-requires-clause-within
join-junction-requires-clause-within t c =
    rw c.deref.ensures.value (hold_within (pred_trees c.args.preds.now) c.build_all.new.store c.in_ok-operands.operands.items c.in_ok-operands.ensures.hold)

pub join-junction-requires-clause-fits : goal.join-junction-requires-clause-fits
join-junction-requires-clause-fits t c =
    rw c.deref.ensures.value
    (hold_fit (pred_trees c.args.preds.now) c.build_all.new.store c.in_ok-operands.operands.items c.requires.fits
    c.in_ok-operands.ensures.hold)

pub join-returns-clause-joined : goal.join-returns-clause-joined
join-returns-clause-joined t c =
    hold_joined c.args.every (pred_trees c.args.preds.now) c.build_all.new.store c.junction.new.store c.in_ok-operands.operands.items c.in_ok-id.id
    c.in_ok-operands.ensures.hold (rw c.deref.ensures.value at c.in_ok-id.ensures.joins)
