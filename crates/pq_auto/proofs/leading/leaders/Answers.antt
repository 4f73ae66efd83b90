use Rattle.std.proofs.Common.{sym, subst}
use Rattle.pq_auto.specs.Leading.{AreLed}
use Rattle.pq_auto.proofs.Leaders.{led_parts}
use Rattle.pq_auto.proofs.leading.leaders.Goals as goal

pub loop-round-init : goal.loop-round-init
loop-round-init c = subst (AreLed c.args.table.now) (sym c.in_ok-leaders.ensures) (led_parts c.args.table.now c.in_ok-parts.parts c.in_ok-parts.ensures)
