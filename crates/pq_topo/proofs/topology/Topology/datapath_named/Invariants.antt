use Rattle.std.proofs.Common.{◌≡◌, drop}
use Rattle.pq_model.specs.Topology.{named_in}
use Rattle.pq_topo.proofs.topology.Topology.datapath_named.Given as goal

-- the switches that are left tell the answer
abbrev pub invariant-loop-switch : goal.invariant-loop-switch
invariant-loop-switch l = named_in (drop l.switch-index l.self.switches) l.name ≡ named_in l.self.switches l.name
