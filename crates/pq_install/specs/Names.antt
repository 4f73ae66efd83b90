-- The names of the queries of an install that is read.
use Rattle.std.specs.Prelude.{ℕ, List, All, IsTrue, bytes_eq}
use Rattle.std.specs.List.{IsDistinct}
use Rattle.pq_term.specs.Names.{is_name}

-- a name
abbrev pub IsName : List ℕ → Type 0
IsName text = IsTrue (is_name text)

-- names that differ
pub record AreReadNames (names : List (List ℕ)) : Type 0 where
  pub each : All IsName names
  pub differ : IsDistinct bytes_eq names
