-- What clauses see of a sink in memory.
use Rattle.std.specs.Prelude.{ℕ, ◌-◌, ◌<◌, ◌⊎◌, min, List, ◌++◌, length, take, Contains}
use Rattle.pq_io.specs.Faults.{next_count}

-- the bytes that were put, how many fit in all, how many a failing write adds at most,
-- the numbers of the calls that fail, and the counts of calls and faults
pub record SinkState : Type 0 where
  pub put : List ℕ
  pub room : ℕ
  pub kept : ℕ
  pub failing : List ℕ
  pub calls : ℕ
  pub faults : ℕ

-- how many more bytes fit
abbrev pub room_left : SinkState → ℕ
room_left s = s.room - length s.put

-- the next write is one of those that fail, or the piece is longer than what is left of the room
abbrev pub MustFail : SinkState → List ℕ → Type 0
MustFail s piece = Contains s.failing (next_count s.calls) ⊎ (room_left s < length piece)

-- the sink after a write that put the whole piece
abbrev pub after_write : SinkState → List ℕ → SinkState
after_write s piece = record s { put = s.put ++ piece; calls = next_count s.calls }

-- the sink after a write that failed, and put what it keeps of the piece as far as that fits
abbrev pub after_failed_write : SinkState → List ℕ → SinkState
after_failed_write s piece = record s {
  put = s.put ++ take (min s.kept (room_left s)) piece;
  calls = next_count s.calls;
  faults = next_count s.faults;
}
