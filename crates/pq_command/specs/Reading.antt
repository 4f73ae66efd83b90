-- What reading a source leaves.
use Rattle.std.specs.Prelude.{◌≡◌, ℕ, ◌+◌, ◌<◌, ◌≤◌, Result, Ok, Err}
use Rattle.pq_io.specs.Faults.{Rose}
use Rattle.pq_command.specs.declared.reading.Unread.{Unread}
use Rattle.pq_command.specs.declared.reading.Unread.TheVariants.{Failed, TooLong, Memory}

-- the most bytes of a document, and of an install with what follows it
abbrev pub document_limit : ℕ
document_limit = 524288

abbrev pub install_limit : ℕ
install_limit = 268435456

-- how many bytes are asked for at once
abbrev pub piece_size : ℕ
piece_size = 16384

-- the count of faults rose where a read failed, and else is as before
abbrev pub HasReadCause : {T : Type 0} → Result T Unread → ℕ → ℕ → Type 0
HasReadCause (Ok text) before now = now ≡ before
HasReadCause (Err Failed) before now = Rose before now
HasReadCause (Err TooLong) before now = now ≡ before
HasReadCause (Err Memory) before now = now ≡ before

-- how long a text is that was taken where it was not read to its end: no longer than the limit where a read failed
abbrev pub IsLength : Unread → ℕ → ℕ → Type 0
IsLength Failed limit n = n ≤ limit
IsLength TooLong limit n = (limit < n) × (n ≤ limit + piece_size)
IsLength Memory limit n = n ≤ limit + piece_size
