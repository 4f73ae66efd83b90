-- How a name is stored.
use Rattle.std.specs.Prelude.{◌≡◌, ℕ, List, ◌++◌, drop, length, replicate, IsTrue}
use Rattle.std.proofs.Common.{ap, sym}
use Rattle.std.proofs.Math.Seq.{take-append_seam}
use Rattle.std.proofs.lemmas.List.{drop-replicate}
use Rattle.pq_term.specs.declared.name.Name.TheInside.{Inside}
use Rattle.pq_term.specs.Names.{is_name}
use Rattle.pq_term.specs.Stored.{stored_bytes, stored, IsStoredName}

-- bytes and what is after them
abbrev over : List ℕ → List ℕ → Inside
over bytes rest = record { padded = bytes ++ rest; len = length bytes }

-- bytes over the first of 32 zeros
abbrev over_zeros : List ℕ → Inside
over_zeros bytes = over bytes (drop (length bytes) (replicate 32 0))

same_bytes : (bytes : List ℕ) → stored_bytes (over_zeros bytes) ≡ bytes
same_bytes bytes = take-append_seam bytes (drop (length bytes) (replicate 32 0))

same_zeros : (bytes : List ℕ) → stored bytes ≡ over_zeros bytes
same_zeros bytes = ap (over bytes) (sym (drop-replicate (length bytes) 32 0))

-- a name that is copied over zeros is stored as names are
pub name_over_zeros : (bytes copied : List ℕ) → IsTrue (is_name bytes) → copied ≡ bytes
    → IsStoredName (record { padded = copied ++ drop (length bytes) (replicate 32 0); len = length bytes })
name_over_zeros bytes copied named same = rw same (record { name = rw (same_bytes bytes) named; padded = rw (same_bytes bytes) (same_zeros bytes) })
