use Rattle.std.proofs.Common.{◌≡◌, take}
use Rattle.pq_topo.proofs.topology.Topology.copy.Given as goal

-- the switches so far are copied
abbrev pub invariant-loop-switch : goal.invariant-loop-switch
invariant-loop-switch l = l.switches.items ≡ take l.switch-index l.self.switches
