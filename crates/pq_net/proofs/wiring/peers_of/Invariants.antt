use Rattle.std.proofs.Common.{◌≡◌, ◌≤◌, ℕ, length, drop}
use Rattle.std.specs.HashMap.{get}
use Rattle.pq_model.specs.Topology.{peer_in}
use Rattle.pq_net.specs.Wired.{same_end}
use Rattle.pq_net.proofs.wiring.peers_of.Given as goal

-- the ends of the links from the index on are put
abbrev pub invariant-loop-index : goal.invariant-loop-index
invariant-loop-index l = record {
  within : l.index ≤ length l.links;
  put : (e : ℕ × ℕ) → get same_end l.peers e ≡ peer_in (drop l.index l.links) e.0 e.1;
}

abbrev pub decreases-loop-index : goal.decreases-loop-index
decreases-loop-index l = l.index
