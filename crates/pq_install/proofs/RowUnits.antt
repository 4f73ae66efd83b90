-- A row of the report at the front of bytes.
use Rattle.std.specs.Prelude.{ℕ, List}
use Rattle.std.proofs.Common.{ap}
use Rattle.std.specs.Int.{w16, w32, w64, to_be_bytes}
use Rattle.pq_model.specs.Buckets.{Instance}
use Rattle.pq_model.specs.TablesMachine.{Row}
use Rattle.pq_model.specs.Install.{pair_bytes, row_bytes}
use Rattle.pq_install.specs.Front.{AreFew, IsU16, IsU32, IsU64, counted_by}
use Rattle.pq_install.specs.Rows.{HasNumbers, HasPairs}
use Rattle.pq_install.proofs.Front.{Unique, unique_u16, unique_u32, unique_u64}
use Rattle.pq_install.proofs.Sequences.{unique_pair, unique_counted}

unique_values : Unique (AreFew IsU32 IsU64) (counted_by w32 (to_be_bytes w64))
unique_values = unique_counted w32 IsU32 unique_u32 IsU64 (to_be_bytes w64) unique_u64

abbrev instance_of : ℕ × List ℕ → Instance
instance_of p = record { query = p.0; label = p.1 }

-- two instances at one front are the same
pub unique_instance : Unique HasNumbers pair_bytes
unique_instance i j a b fi fj e =
    let same = unique_pair IsU16 (to_be_bytes w16) unique_u16 (AreFew IsU32 IsU64) (counted_by w32 (to_be_bytes w64)) unique_values
    (i.query, i.label) (j.query, j.label) a b fi fj e in
    (ap instance_of same.0, same.1)

unique_pairs : Unique (AreFew IsU16 HasNumbers) (counted_by w16 pair_bytes)
unique_pairs = unique_counted w16 IsU16 unique_u16 HasNumbers pair_bytes unique_instance

abbrev row_of : ℕ × List Instance → Row
row_of p = record { tag = p.0; pairs = p.1 }

-- two rows at one front are the same
pub unique_row : Unique HasPairs row_bytes
unique_row r s a b fr fs e =
    let same = unique_pair IsU16 (to_be_bytes w16) unique_u16 (AreFew IsU16 HasNumbers) (counted_by w16 pair_bytes) unique_pairs
    (r.tag, r.pairs) (s.tag, s.pairs) a b fr fs e in
    (ap row_of same.0, same.1)
