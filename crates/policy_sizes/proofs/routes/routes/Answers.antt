use Rattle.std.proofs.Common.{rules}
use Rattle.policy_sizes.proofs.Operands.{one_more}
use Rattle.policy_sizes.proofs.routes.routes.Goals as goal

pub loop-place-preserved : goal.loop-place-preserved
loop-place-preserved c =
    let more = one_more c.loop-place.operands.items c.push.new.self.items c.in_ok-route.field-0 _ _ c.in_ok-push.ensures.items
    c.loop-place.invariant c.in_ok-route.ensures in
    search (rules, more)
