use Rattle.std.proofs.Common.{◌∙◌, sym}
use Rattle.pq_deriv.proofs.Beginnings.{turn_dead}
use Rattle.pq_deriv.proofs.dead.turn_is_dead.Goals as goal

pub returns : goal.returns
returns c = λ dead w. turn_dead c.args.exprs.now c.args.rest.now (sym c.is_empty.ensures ∙ c.if-is_empty.false) (sym c.is_empty-2.ensures ∙ dead) w
