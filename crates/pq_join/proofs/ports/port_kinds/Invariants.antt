use Rattle.pq_model.specs.Topology.{ports_of}
use Rattle.pq_join.specs.Ports.{own_kind}
use Rattle.pq_join.proofs.PortTrees.{IsBehind}
use Rattle.pq_join.proofs.ports.port_kinds.Given as goal

-- the tree tells the ports after those that are left
abbrev pub invariant-loop-port : goal.invariant-loop-port
invariant-loop-port l = IsBehind (own_kind l.topology l.datapath) l.port-iterator.iter.rest.now (ports_of l.topology l.datapath) l.kinds l.id
