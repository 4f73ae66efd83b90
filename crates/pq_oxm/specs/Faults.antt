-- Why no match is read.
use Rattle.std.specs.Prelude.{◌≡◌, ℕ, List}
use Rattle.pq_model.specs.MatchFields.{MatchFields, IsLawfulMatch}
use Rattle.pq_model.specs.Spelling.{match_bytes}
use Rattle.pq_oxm.specs.declared.reading.MatchFault.{MatchFault}
use Rattle.pq_oxm.specs.declared.reading.MatchFault.TheVariants.{BadMatch, Memory}
use Rattle.pq_oxm.specs.Standing.{StandsAt}

-- no lawful match is spelled at the place
abbrev pub HasNoMatchAt : List ℕ → ℕ → Type 0
HasNoMatchAt bytes at = (m : MatchFields) → IsLawfulMatch m → StandsAt bytes at (match_bytes m) → ⊥

-- a match is refused at its place where none is spelled there, or because memory runs out
abbrev pub IsMatchFault : List ℕ → ℕ → MatchFault → Type 0
IsMatchFault bytes at (BadMatch place) = (place ≡ at) × HasNoMatchAt bytes at
IsMatchFault bytes at Memory = Unit {0}
