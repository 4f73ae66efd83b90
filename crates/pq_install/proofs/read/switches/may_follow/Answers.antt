use Rattle.std.proofs.Common.{◌≡◌, length, arith, ap, ◌∙◌}
use Rattle.std.proofs.lemmas.Bool.Decides.{nat_tests}
use Rattle.pq_install.proofs.SwitchLists.{follows}
use Rattle.pq_install.proofs.read.switches.may_follow.Goals as goal

-- the switch is not above the last
pub returns-then-not-comes_after : goal.returns-then-not-comes_after
returns-then-not-comes_after c =
    let f = follows c.args.before.now c.args.switch.now c.requires.before c.requires.switch in
    let above = rw (ap (λ s. s.datapath) c.switch.view_is) at c.comes_after.ensures in
    (λ no. absurd cc, λ are. grind (arith, above.1 (f.1 are).0, c.if-not-comes_after.true))

-- the count of the ports decides
pub returns : goal.returns
returns c =
    let f = follows c.args.before.now c.args.switch.now c.requires.before c.requires.switch in
    let above = rw (ap (λ s. s.datapath) c.switch.view_is) at c.comes_after.ensures in
    let ports : c.len.result ≡ length c.args.switch.now.ports = c.len.ensures ∙ (c.switch.inside.ports.ok.0 ∙ ap (λ s. length s.ports) c.switch.view_is) in (
      λ few. f.0 (above.0 c.if-not-comes_after.false, grind (arith, nat_tests, few, ports, c.port_count.ensures)),
      λ are. grind (arith, nat_tests, (f.1 are).1, ports, c.port_count.ensures),
    )
