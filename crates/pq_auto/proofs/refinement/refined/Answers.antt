use Rattle.std.proofs.Common.{◌∙◌, ◌+◌, ap, sym, length, arith}
use Rattle.pq_auto.specs.Leading.{key_in}
use Rattle.pq_auto.specs.Refinement.{signature}
use Rattle.pq_auto.proofs.Rounds as rounds
use Rattle.pq_auto.proofs.refinement.refined.Goals as goal

pub loop-state-init : goal.loop-state-init
loop-state-init c = (c.new-finer.ensures.parted (signature c.args.table.now c.args.parts.now), ap length c.new-finer.ensures.none)

pub loop-state-preserved : goal.loop-state-preserved
loop-state-preserved c =
    let key = signature c.args.table.now c.args.parts.now in (
      c.in_ok-add.ensures.parted key (ap key c.loop-state.invariant.1
          ∙ sym (c.in_ok-key.ensures ∙ ap (λ classes. key_in c.args.table.now classes c.loop-state.state) c.classes.ensures))
          c.loop-state.invariant.0,
      c.in_ok-add.ensures.more ∙ ap (λ n. n + 1) c.loop-state.invariant.1,
    )

pub returns-clause-round : goal.returns-clause-round
returns-clause-round c =
    rounds.refined c.args.table.now c.is_lawful.ensures c.args.parts.now c.loop-state.finer c.requires c.loop-state.invariant.0
    (omega arith)

pub returns-clause-last : goal.returns-clause-last
returns-clause-last c = rounds.last c.args.table.now c.is_lawful.ensures c.args.parts.now c.loop-state.finer c.requires c.loop-state.invariant.0 (omega arith)
