-- What each outcome says of the input, and what it leaves in the source and the sink.
use Rattle.std.specs.Prelude.{◌≡◌, ℕ, ◌+◌, ◌<◌, ◌≤◌, ◌⊎◌, List, length, Option, Some, None, IfSome}
use Rattle.std.specs.Io.KnownBytes.{Appends, Consumes, IsAtEnd}
use Rattle.pq_io.specs.Faults.{Rose}
use Rattle.pq_io.specs.Pieces.{AppendsPart}
use Rattle.pq_command.specs.declared.outcome.Outcome.{Outcome}
use Rattle.pq_command.specs.declared.outcome.Outcome.TheVariants.{Done, Words, ReadFault, TooLong, Speaking, SessionFull, WriteFault, Memory}
use Rattle.pq_command.specs.Reading.{piece_size}

-- the bytes that a source has left and a sink was put, before and after a command
pub record Streams : Type 0 where
  pub left : Option (List ℕ)
  pub rest : Option (List ℕ)
  pub before : Option (List ℕ)
  pub after : Option (List ℕ)

abbrev pub streams : Option (List ℕ) → Option (List ℕ) → Option (List ℕ) → Option (List ℕ) → Streams
streams left rest before after = record { left = left; rest = rest; before = before; after = after }

-- bytes with this property were read
abbrev pub Reads : Streams → (List ℕ → Type 0) → Type 0
Reads s P = (text : List ℕ) × Consumes s.left s.rest text × P text

-- the whole input is a text of at most this many bytes with this property
abbrev pub ReadsWhole : Streams → ℕ → (List ℕ → Type 0) → Type 0
ReadsWhole s limit P = Reads s (λ text. IsAtEnd s.rest × (length text ≤ limit) × P text)

-- more than this many bytes were read, and at most one piece more
abbrev pub ReadsMore : Streams → ℕ → Type 0
ReadsMore s limit = Reads s (λ text. (limit < length text) × (length text ≤ limit + piece_size))

-- the whole output was put, and a part of it
abbrev pub Puts : Streams → (List ℕ → Type 0) → Type 0
Puts s P = (written : List ℕ) × P written × Appends s.before s.after written

abbrev pub PutsPart : Streams → (List ℕ → Type 0) → Type 0
PutsPart s P = (written : List ℕ) × P written × AppendsPart s.before s.after written

-- a command that makes something of a whole text: how many bytes it reads at most, which texts have an output, which output that is, and
-- which outcome says why a text has none
pub record Task : Type 1 where
  pub limit : ℕ
  pub Accepts : List ℕ → Type 0
  pub Writes : List ℕ → List ℕ → Type 0
  pub Refuses : Outcome → List ℕ → Type 0

-- what the outcome of such a command says of a text
abbrev pub IsAnswerOn : Task → List ℕ → Outcome → Streams → Type 0
IsAnswerOn task text Done s = Puts s (task.Writes text)
IsAnswerOn task text WriteFault s = PutsPart s (task.Writes text)
IsAnswerOn task text Memory s = Unit {0}
IsAnswerOn task text Words s = ⊥
IsAnswerOn task text ReadFault s = ⊥
IsAnswerOn task text TooLong s = ⊥
IsAnswerOn task text outcome s = task.Refuses outcome text

-- and of an input that was not read to its end
abbrev pub StopsReading : Task → Outcome → Streams → Type 0
StopsReading task TooLong s = ReadsMore s task.limit
StopsReading task ReadFault s = Reads s (λ text. length text ≤ task.limit)
StopsReading task Memory s = Unit {0}
StopsReading task outcome s = ⊥

-- what it says where the command works on a text that is given, or, where none is, on the whole input
abbrev pub IsAnswer : Task → Option (List ℕ) → Outcome → Streams → Type 0
IsAnswer task (Some text) outcome s = IsAnswerOn task text outcome s
IsAnswer task None outcome s = ReadsWhole s task.limit (λ text. IsAnswerOn task text outcome s) ⊎ StopsReading task outcome s

-- the outcome says something of a text that was read, or that memory ran out
abbrev pub IsOfText : Outcome → Type 0
IsOfText Done = ⊥
IsOfText WriteFault = ⊥
IsOfText TooLong = ⊥
IsOfText ReadFault = ⊥
IsOfText Words = ⊥
IsOfText SessionFull = ⊥
IsOfText _ = Unit {0}

-- a source's faults rose where the outcome is a read fault, and else are as before
abbrev pub HasReadFaults : Outcome → ℕ → ℕ → Type 0
HasReadFaults ReadFault before now = Rose before now
HasReadFaults _ before now = now ≡ before

-- a sink's faults rose where the outcome is a write fault, and else are as before
abbrev pub HasWriteFaults : Outcome → ℕ → ℕ → Type 0
HasWriteFaults WriteFault before now = Rose before now
HasWriteFaults _ before now = now ≡ before

-- a fact for each outcome that leaves the sink as it was, where a command writes once, after all is read
abbrev pub OnRefusal : Outcome → Type 0 → Type 0
OnRefusal Done fact = Unit {0}
OnRefusal WriteFault fact = Unit {0}
OnRefusal _ fact = fact

-- and where it reads and writes in turns
abbrev pub OnRefusalInTurns : Outcome → Type 0 → Type 0
OnRefusalInTurns ReadFault fact = Unit {0}
OnRefusalInTurns TooLong fact = Unit {0}
OnRefusalInTurns (Speaking talk) fact = Unit {0}
OnRefusalInTurns Memory fact = Unit {0}
OnRefusalInTurns outcome fact = OnRefusal outcome fact

-- and where it writes a frame for each piece that it reads
abbrev pub OnRefusalInSession : Outcome → Type 0 → Type 0
OnRefusalInSession SessionFull fact = Unit {0}
OnRefusalInSession outcome fact = OnRefusalInTurns outcome fact

-- no fault came
abbrev pub HasNoFault : ℕ → ℕ → Type 0
HasNoFault before now = Rose before now → ⊥

-- the output was written, or memory ran out
abbrev pub IsDoneOrMemory : Outcome → Type 0
IsDoneOrMemory Done = Unit {0}
IsDoneOrMemory Memory = Unit {0}
IsDoneOrMemory _ = ⊥

-- so it is where the text that is given, or else the known input, is one that the command accepts
abbrev pub Completes : Task → Option (List ℕ) → Option (List ℕ) → Outcome → Type 0
Completes task (Some text) left outcome = task.Accepts text → IsDoneOrMemory outcome
Completes task None left outcome = IfSome left (λ bytes. length bytes ≤ task.limit → task.Accepts bytes → IsDoneOrMemory outcome)
