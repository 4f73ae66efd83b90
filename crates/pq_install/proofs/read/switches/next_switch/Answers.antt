use Rattle.std.proofs.Common.{arith, refl, ◌++◌, ◌∷◌, []}
use Rattle.pq_model.specs.Install.{switch_bytes}
use Rattle.pq_install.specs.Switches.{IsReadSwitch, AreReadSwitches}
use Rattle.pq_install.proofs.Sequences.{none_but}
use Rattle.pq_install.proofs.SwitchUnits.{unique_switch}
use Rattle.pq_install.proofs.SwitchLists.{last_is_read}
use Rattle.pq_install.proofs.read.switches.next_switch.Goals as goal

-- the switch that is there may not follow
pub returns-then-not-may_follow-clause-err : goal.returns-then-not-may_follow-clause-err
returns-then-not-may_follow-clause-err c =
    let front = rw c.in-Some.is at c.in_ok-switch.ensures in (
      refl,
      none_but IsReadSwitch switch_bytes unique_switch (λ s. AreReadSwitches (c.args.before.now ++ s ∷ [])) c.args.bytes.now
          c.in-Some.switch _ (last_is_read c.args.before.now) front
          (λ are. grind (arith, c.may_follow.ensures.1 are, c.if-not-may_follow.true)),
    )
