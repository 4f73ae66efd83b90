-- The other end of each linked port, by its own end.
use Rattle.std.specs.Prelude.{◌≡◌, ℕ, Bool, ◌==◌, ◌&&◌}
use Rattle.std.specs.HashMap.{get}
use Rattle.pq_model.specs.Topology.{peer}
use Rattle.pq_net.specs.declared.wiring.Wiring.TheInside.{Inside}

-- whether two ends, each a datapath number and a port, are the same
abbrev pub same_end : ℕ × ℕ → ℕ × ℕ → Bool
same_end d e = (d.0 == e.0) && (d.1 == e.1)

-- what is stored by each end is the other end of its link
abbrev pub IsWired : Inside → Type 0
IsWired w = (e : ℕ × ℕ) → get same_end w.peers e ≡ peer w.topology e.0 e.1
