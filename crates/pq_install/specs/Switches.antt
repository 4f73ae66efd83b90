-- The switches of an install that is read.
use Rattle.std.specs.Prelude.{◌≡◌, ◌≢◌, ℕ, ◌≤◌, ◌&&◌, Bool, true, List, [], ◌∷◌, ◌++◌, All, length, map, nat_lt, codes, decimal}
use Rattle.pq_model.specs.Lawful.{Ascends}
use Rattle.pq_model.specs.MatchFields.{IsPortNumber}
use Rattle.pq_model.specs.Topology.{Switch}
use Rattle.pq_model.specs.Install.{IsLawfulSwitch, port_count}

-- the name of a switch that is read: `n` and its datapath number
abbrev pub read_name : ℕ → List ℕ
read_name datapath = codes "n" ++ decimal datapath

-- a lawful switch with at most 4,096 ports, and with the name and the limit of one that is read
abbrev pub IsReadSwitch : Switch → Type 0
IsReadSwitch s = IsLawfulSwitch s × (length s.ports ≤ 4096) × (s.name ≡ read_name s.datapath) × (s.limit ≡ 0)

-- ascending switches with at most 4,096 ports in all
pub record AreReadSwitches (ss : List Switch) : Type 0 where
  pub each : All IsReadSwitch ss
  pub ascending : Ascends (map (λ s. s.datapath) ss)
  pub few_ports : port_count ss ≤ 4096

-- ports that a switch may have: at least one and at most 4,096, ascending
abbrev pub ArePorts : List ℕ → Type 0
ArePorts ps = (ps ≢ []) × (length ps ≤ 4096) × Ascends ps × All IsPortNumber ps

-- the ports ascend from above a number, up to the greatest port number
abbrev pub are_ports_above : ℕ → List ℕ → Bool
are_ports_above last [] = true
are_ports_above last (p ∷ ps) = (nat_lt last p && nat_lt p 0xffffff01) && are_ports_above p ps
