use Rattle.std.proofs.Common.{◌≡◌, drop}
use Rattle.pq_install.specs.Switches.{are_ports_above}
use Rattle.pq_install.proofs.read.switches.ascend.Given as goal

-- the ports that are left tell the answer
abbrev pub invariant-loop-port : goal.invariant-loop-port
invariant-loop-port l = are_ports_above l.last (drop l.port-index l.ports) ≡ are_ports_above 0 l.ports
