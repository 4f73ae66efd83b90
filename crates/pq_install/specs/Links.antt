-- The links of an install that is read.
use Rattle.std.specs.Prelude.{ℕ, Bool, ◌==◌, ◌&&◌, List, [], All}
use Rattle.std.specs.List.{IsDistinct}
use Rattle.pq_model.specs.Topology.{Switch, Link, Topology}
use Rattle.pq_model.specs.Install.{AscendsBy, IsLawfulLink, ends_of, link_numbers}
use Rattle.pq_install.specs.Front.{IsU32, IsU64}

-- the numbers of an end fit their places
abbrev pub IsEnd : ℕ × ℕ → Type 0
IsEnd e = IsU64 e.0 × IsU32 e.1

abbrev pub HasEnds : Link → Type 0
HasEnds l = IsEnd l.first × IsEnd l.second

abbrev pub same_end : ℕ × ℕ → ℕ × ℕ → Bool
same_end d e = (d.0 == e.0) && (d.1 == e.1)

-- switches without links
abbrev pub unlinked : List Switch → Topology
unlinked ss = record { switches = ss; links = [] }

-- ascending links between ports of the switches, with no port in two
pub record AreReadLinks (ss : List Switch) (ls : List Link) : Type 0 where
  pub each : All (IsLawfulLink (unlinked ss)) ls
  pub linked_once : IsDistinct same_end (ends_of ls)
  pub ascending : AscendsBy link_numbers ls
