use Rattle.std.proofs.Common.{refl, arith}
use Rattle.pq_model.specs.Lawful.{IsLawfulAction}
use Rattle.pq_flowmod.proofs.RuleLaws.{all_more, all_done}
use Rattle.pq_flowmod.proofs.rules.are_lawful.Goals as goal

-- one more action is lawful
pub loop-action-preserved : goal.loop-action-preserved
loop-action-preserved c = all_more IsLawfulAction c.args.actions.now c.loop-action.action-index _ c.loop-action-test.true
    (c.is_lawful.ensures.0 c.if-not-is_lawful.false) c.loop-action.invariant

-- all are
pub returns : goal.returns
returns c = (
  (λ t. all_done IsLawfulAction c.args.actions.now c.loop-action.action-index
      (omega (arith, c.loop-action-test.false)) c.loop-action.invariant),
  λ all. refl,
)
