use Rattle.std.proofs.Common.{◌∙◌, ◌+◌, ap, sym, length, arith}
use Rattle.pq_auto.specs.Refinement.{mark}
use Rattle.pq_auto.proofs.Rounds as rounds
use Rattle.pq_auto.proofs.refinement.marked.Goals as goal

pub loop-state-init : goal.loop-state-init
loop-state-init c = (c.new-parts.ensures.parted (mark c.args.table.now), ap length c.new-parts.ensures.none)

pub loop-state-preserved : goal.loop-state-preserved
loop-state-preserved c = (
  c.in_ok-add.ensures.parted (mark c.args.table.now) (ap (mark c.args.table.now) c.loop-state.invariant.1 ∙ sym c.in_ok-key.ensures) c.loop-state.invariant.0,
  c.in_ok-add.ensures.more ∙ ap (λ n. n + 1) c.loop-state.invariant.1,
)

pub returns : goal.returns
returns c = rounds.marked c.args.table.now c.is_lawful.ensures c.loop-state.parts c.loop-state.invariant.0 (omega arith)
