use Rattle.std.proofs.Common.{◌≡◌, ◌++◌, drop}
use Rattle.pq_query.proofs.values.push_ports.Given as goal

-- what is there and the ports that are left make the whole
abbrev pub invariant-loop-port : goal.invariant-loop-port
invariant-loop-port l = l.into.items ++ drop l.port-index l.ports ≡ l.initial.into.items ++ l.ports
