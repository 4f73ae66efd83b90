-- A link at the front of bytes: its two ends.
use Rattle.std.specs.Prelude.{ℕ, List}
use Rattle.std.proofs.Common.{ap}
use Rattle.std.specs.Int.{w32, w64, to_be_bytes}
use Rattle.pq_model.specs.Topology.{Link}
use Rattle.pq_model.specs.Install.{end_bytes, link_bytes}
use Rattle.pq_install.specs.Front.{NoneAtFront, IsAtFront, IsU32, IsU64}
use Rattle.pq_install.specs.Links.{HasEnds, IsEnd}
use Rattle.pq_install.proofs.Front.{Unique, unique_u32, unique_u64}
use Rattle.pq_install.proofs.Sequences.{no_first, no_second, unique_pair}

unique_end : Unique IsEnd end_bytes
unique_end = unique_pair IsU64 (to_be_bytes w64) unique_u64 IsU32 (to_be_bytes w32) unique_u32

pub no_first_end : (bytes : List ℕ) → NoneAtFront IsEnd end_bytes bytes → NoneAtFront HasEnds link_bytes bytes
no_first_end bytes none l rest fit e = no_first IsEnd end_bytes unique_end IsEnd end_bytes bytes none (l.first, l.second) rest fit e

pub no_second_end : (bytes : List ℕ) (first : ℕ × ℕ) (after : List ℕ) → IsAtFront IsEnd end_bytes bytes first after
    → NoneAtFront IsEnd end_bytes after → NoneAtFront HasEnds link_bytes bytes
no_second_end bytes first after front none l rest fit e = no_second IsEnd end_bytes unique_end IsEnd end_bytes bytes first after front none
    (l.first, l.second) rest fit e

-- a link of two ends
abbrev link_of : (ℕ × ℕ) × (ℕ × ℕ) → Link
link_of p = record { first = p.0; second = p.1 }

-- two links at one front are the same
pub unique_link : Unique HasEnds link_bytes
unique_link l m a b fl fm e =
    let same = unique_pair IsEnd end_bytes unique_end IsEnd end_bytes unique_end (l.first, l.second) (m.first, m.second) a b fl fm e in
    (ap link_of same.0, same.1)
