use Rattle.pq_forward.proofs.Ports.{IsListed}
use Rattle.pq_forward.proofs.flood.at_others.Given as goal

-- the ports so far are listed
abbrev pub invariant-loop-port : goal.invariant-loop-port
invariant-loop-port l = IsListed l.own l.ports l.port-index l.list.items
