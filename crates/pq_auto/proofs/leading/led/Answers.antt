use Rattle.std.proofs.Common.{ℕ, List, ap, arith, ◌+◌, ◌∷◌, [], ◌∙◌, sym, length}
use Rattle.pq_auto.specs.Leading.{leader_in}
use Rattle.pq_auto.proofs.Leaders.{round_led}
use Rattle.pq_auto.proofs.leading.led.Goals as goal

pub loop-state-init : goal.loop-state-init
loop-state-init c = (c.new-parts.ensures.parted (λ s. leader_in c.in_ok-leaders.leaders.items s ∷ []), ap length c.new-parts.ensures.none)

pub loop-state-preserved : goal.loop-state-preserved
loop-state-preserved c =
    let key : ℕ → List ℕ = λ s. leader_in c.in_ok-leaders.leaders.items s ∷ [] in
    let own = c.number_at-leader.ensures ∙ ap (λ ns. leader_in ns c.loop-state.state) c.deref.ensures.value in (
      c.in_ok-add.ensures.parted key (ap key c.loop-state.invariant.1 ∙ sym (c.in_ok-key.ensures.items ∙ ap (λ n. n ∷ []) own)) c.loop-state.invariant.0,
      c.in_ok-add.ensures.more ∙ ap (λ n. n + 1) c.loop-state.invariant.1,
    )

pub returns : goal.returns
returns c =
    let led = c.in_ok-leaders.ensures in
    round_led c.args.table.now c.in_ok-leaders.leaders.items led c.loop-state.parts c.loop-state.invariant.0
    (omega (arith, c.loop-state.invariant.1, led.whole, c.loop-state-test.false))
