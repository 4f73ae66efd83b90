use Rattle.std.proofs.Common.{refl}
use Rattle.pq_expr.specs.Expr.{expr_tree}
use Rattle.pq_deriv.specs.Left.{left}
use Rattle.pq_deriv.proofs.Members.{none_joined}
use Rattle.pq_deriv.proofs.sets.put.Goals as goal

pub returns-then-is_dead-clause-left : goal.returns-then-is_dead-clause-left
returns-then-is_dead-clause-left c =
    let dead = c.is_dead.ensures c.if-is_dead.true in
    λ P w. rw (none_joined (left (expr_tree c.args.expr.now) c.args.rest.items) P (rw c.deref.ensures.value at dead) w) refl

pub returns-then-is_dead-clause-members : goal.returns-then-is_dead-clause-members
returns-then-is_dead-clause-members c = λ U one members. members
