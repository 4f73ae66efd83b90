use Rattle.std.proofs.Common.{◌≡◌, ◌∙◌, length-append, sym, ap, subst, arith}
use Rattle.pq_fields.specs.declared.pred.Pred.TheVariants.{Or, rolls-Or}
use Rattle.pq_fields.specs.declared.pred.Pred.TheOpen.{Pred-F}
use Rattle.pq_fields.specs.declared.pred.Pred.TheFolds.{fold-roll-Pred}
use Rattle.pq_fields.specs.Pred.{PredTree, pred_step, pred_tree, pred_trees}
use Rattle.pq_fields.specs.Pred.PredTop.{Some as AnyOf}
use Rattle.diagram_sizes.specs.Disjunctions.{NamesOnly, numbers_of}
use Rattle.diagram_sizes.proofs.Operands.{one_more, disjunction_is}
use Rattle.diagram_sizes.proofs.disjunctions.disjunction.Goals as goal

pub loop-preserved : goal.loop-preserved
loop-preserved c =
    rw c.in_ok-push.ensures.items (record {
      operands = one_more (numbers_of c.args.tested c.args.count) c.loop.operands.items c.operand.result c.loop.invariant.operands c.operand.ensures;
      turns = grind (arith, length-append, c.loop.invariant.turns);
      place = c.next-place.ensures;
    })

pub returns : goal.returns
returns c =
    let ns = numbers_of c.args.tested c.args.count in
    let tree : PredTree = record { top = AnyOf; below = pred_trees c.loop.operands.items } in
    let is : pred_tree (Or c.loop.operands) ≡ tree = ap pred_tree (sym (rolls-Or c.loop.operands))
    ∙ fold-roll-Pred PredTree pred_step (Pred-F.Or c.loop.operands) in
    subst (NamesOnly ns) (sym is)
    (disjunction_is ns c.loop.operands.items c.loop.invariant.operands (omega (arith, c.loop.invariant.turns, c.loop-test.false, c.requires.some)))
