-- What clauses see of a source in memory.
use Rattle.std.specs.Prelude.{ℕ, List, drop}
use Rattle.pq_io.specs.Faults.{next_count}

-- the bytes that are left, the most that one call gives, the numbers of the calls that fail, and the counts of calls and faults
pub record SourceState : Type 0 where
  pub left : List ℕ
  pub most : ℕ
  pub failing : List ℕ
  pub calls : ℕ
  pub faults : ℕ

-- the source after a read that gave n bytes
abbrev pub after_read : SourceState → ℕ → SourceState
after_read s n = record s { left = drop n s.left; calls = next_count s.calls }

-- the source after a read that failed
abbrev pub after_failed_read : SourceState → SourceState
after_failed_read s = record s { calls = next_count s.calls; faults = next_count s.faults }
