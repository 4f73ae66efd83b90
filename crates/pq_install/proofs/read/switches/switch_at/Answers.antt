use Rattle.std.proofs.Common.{arith}
use Rattle.pq_install.specs.Switches.{ArePorts}
use Rattle.pq_install.proofs.SwitchUnits.{no_ports, bad_ports}
use Rattle.pq_install.proofs.read.switches.switch_at.Goals as goal

pub returns-in_default-2 : goal.returns-in_default-2
returns-in_default-2 c = no_ports c.args.bytes.now _ _ c.in-Some.ensures (rw c.in_default-2.is at c.in_ok-ports.ensures)

pub returns-then-not-are_ports : goal.returns-then-not-are_ports
returns-then-not-are_ports c =
    let behind = rw c.in-Some-2.is at c.in_ok-ports.ensures in
    bad_ports c.args.bytes.now _ _ _ _ c.in-Some.ensures behind
    (λ (are : ArePorts c.in-Some-2.ports.items). grind (
      arith,
      c.are_ports.ensures.1 (rw c.deref.ensures.value are),
      c.if-not-are_ports.true,
    ))
