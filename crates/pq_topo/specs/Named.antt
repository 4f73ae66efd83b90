-- The rules of a network whose switches have names.
use Rattle.std.specs.Prelude.{ℕ, ◌≡◌, ◌≢◌, ◌<◌, ◌≤◌, List, All, map, bytes_eq, length}
use Rattle.std.specs.List.{IsDistinct, HoldsAt}
use Rattle.pq_model.specs.Topology.{Switch, Topology}
use Rattle.pq_model.specs.Install.{IsLawfulTopology}

-- the lists keep the rules of an install, the names differ, and no limit is above 16,384
pub record IsNamedTopology (t : Topology) : Type 0 where
  pub lawful : IsLawfulTopology t
  pub names_differ : IsDistinct bytes_eq (map (λ s. s.name) t.switches)
  pub limits : All (λ s. s.limit ≤ 16384) t.switches

-- the switch with this datapath number is at this place
abbrev pub IsSwitchAt : List Switch → ℕ → ℕ → Type 0
IsSwitchAt ss d i = (i < length ss) × HoldsAt (λ s. s.datapath ≡ d) ss i

-- no switch has this datapath number
abbrev pub IsNoSwitch : List Switch → ℕ → Type 0
IsNoSwitch ss d = All (λ s. s.datapath ≢ d) ss
