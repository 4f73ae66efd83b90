use Rattle.std.proofs.Common.{◌≡◌, drop}
use Rattle.pq_model.specs.Topology.{peer_in}
use Rattle.pq_topo.proofs.topology.Topology.peer.Given as goal

-- the links that are left tell the answer
abbrev pub invariant-loop-link : goal.invariant-loop-link
invariant-loop-link l = peer_in (drop l.link-index l.self.links) l.datapath l.port ≡ peer_in l.self.links l.datapath l.port
