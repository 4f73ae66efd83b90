-- The report of an install that is read.
use Rattle.std.specs.Prelude.{ℕ, ◌+◌, List, [], ◌∷◌, ◌++◌, All, map}
use Rattle.pq_model.specs.Buckets.{Instance}
use Rattle.pq_model.specs.Lawful.{Ascends}
use Rattle.pq_model.specs.TablesMachine.{Row}
use Rattle.pq_model.specs.Install.{IsLawfulRow}
use Rattle.pq_install.specs.Front.{IsU16, IsU32, IsU64, AreFew}

-- the numbers of an instance fit their places
abbrev pub HasNumbers : Instance → Type 0
HasNumbers i = IsU16 i.query × AreFew IsU32 IsU64 i.label

-- the numbers of a row fit their places
abbrev pub HasPairs : Row → Type 0
HasPairs row = IsU16 row.tag × AreFew IsU16 HasNumbers row.pairs

-- lawful rows with ascending tags
pub record AreReadRows (queries : ℕ) (rows : List Row) : Type 0 where
  pub each : All (IsLawfulRow queries) rows
  pub ascending : Ascends (map (λ row. row.tag) rows)

-- the numbers by which labels are in order: a label is before each that it begins
abbrev pub label_numbers : List ℕ → List ℕ
label_numbers label = map (λ v. v + 1) label ++ 0 ∷ []
