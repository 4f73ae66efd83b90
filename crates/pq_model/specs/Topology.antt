-- Switches, their ports and the links between them.
use Rattle.std.specs.Prelude.{ℕ, Bool, List, [], ◌∷◌, ◌==◌, ◌&&◌, is_some, is_none, bytes_eq, if◌then◌else◌}
use Rattle.std.specs.declared.option.Option.{Option}
use Rattle.std.specs.declared.option.Option.TheVariants.{None, Some}
use Rattle.std.specs.List.{list_any}

-- a switch: its name, its datapath number, its ports, and the most entries that a table of it holds
pub record Switch : Type 0 where
  pub name : List ℕ
  pub datapath : ℕ
  pub ports : List ℕ
  pub limit : ℕ

-- a link: its two ends, each a datapath number and a port
pub record Link : Type 0 where
  pub first : ℕ × ℕ
  pub second : ℕ × ℕ

pub record Topology : Type 0 where
  pub switches : List Switch
  pub links : List Link

abbrev pub ports_in : List Switch → ℕ → List ℕ
ports_in [] d = []
ports_in (s ∷ ss) d = if s.datapath == d then s.ports else ports_in ss d

-- the ports of the switch with this datapath number, and none where there is no such switch
abbrev pub ports_of : Topology → ℕ → List ℕ
ports_of t d = ports_in t.switches d

abbrev pub limit_in : List Switch → ℕ → ℕ
limit_in [] d = 0
limit_in (s ∷ ss) d = if s.datapath == d then s.limit else limit_in ss d

-- the entry limit of the switch with this datapath number, and 0 where there is no such switch
abbrev pub limit_of : Topology → ℕ → ℕ
limit_of t d = limit_in t.switches d

abbrev pub named_in : List Switch → List ℕ → Option ℕ
named_in [] name = None
named_in (s ∷ ss) name = if bytes_eq s.name name then Some s.datapath else named_in ss name

-- the datapath number of the switch with this name, where there is one
abbrev pub switch_named : Topology → List ℕ → Option ℕ
switch_named t name = named_in t.switches name

abbrev pub is_port : Topology → ℕ → ℕ → Bool
is_port t d p = list_any (λ q. q == p) (ports_of t d)

abbrev pub is_end : ℕ × ℕ → ℕ → ℕ → Bool
is_end e d p = (e.0 == d) && (e.1 == p)

abbrev pub peer_in : List Link → ℕ → ℕ → Option (ℕ × ℕ)
peer_in [] d p = None
peer_in (l ∷ ls) d p = if is_end l.first d p then Some l.second else if is_end l.second d p then Some l.first else peer_in ls d p

-- the other end of the link that has this end, where there is one
abbrev pub peer : Topology → ℕ → ℕ → Option (ℕ × ℕ)
peer t d p = peer_in t.links d p

abbrev pub is_linked : Topology → ℕ → ℕ → Bool
is_linked t d p = is_some (peer t d p)

-- a port that is in no link
abbrev pub is_edge : Topology → ℕ → ℕ → Bool
is_edge t d p = is_port t d p && is_none (peer t d p)
