-- What a session of edits reads, and what it writes for that. Its text is pieces: a document, and then one edit each.
use Rattle.std.specs.Prelude.{◌≡◌, ◌≢◌, ℕ, ◌<◌, ◌≤◌, ◌⊎◌, Bool, MatchBool, List, [], ◌∷◌, ◌++◌, length, All, Option, IfSome}
use Rattle.std.specs.Io.KnownBytes.{Appends, IsAtEnd}
use Rattle.pq_io.specs.Pieces.{AppendsPart}
use Rattle.pq_model.specs.declared.message.Message.{Message}
use Rattle.pq_model.specs.Install.{Install, IsLawfulList}
use Rattle.pq_pieces.specs.declared.unread.Unread.{Unread}
use Rattle.pq_pieces.specs.declared.unread.Unread.TheVariants as unread
use Rattle.pq_pieces.specs.Pieces.{BeginsLong, pieces_of}
use Rattle.pq_pieces.specs.Reading.{IsOpen, chunk_size}
use Rattle.pq_delta.specs.Delta.{delta}
use Rattle.pq_compile.specs.Compiled.{IsInstalled}
use Rattle.pq_compile.specs.declared.fault.DocumentFault.{DocumentFault}
use Rattle.pq_compile.specs.Documents.{DocumentTree, Spells}
use Rattle.pq_edit.specs.Edits.{EditTree, edited}
use Rattle.pq_edit.specs.Reading.{IsEditFault, SpellsEdit}
use Rattle.pq_engine.specs.Codes.{EngineValue}
use Rattle.pq_command.specs.declared.outcome.Outcome.{Outcome}
use Rattle.pq_command.specs.declared.outcome.Outcome.TheVariants.{Done, Words, ReadFault, TooLong, SessionFull, WriteFault, Memory}
use Rattle.pq_command.specs.Answers.{Reads, Streams}
use Rattle.pq_command.specs.Compiles.{HasNoInstall, IsLimitFault, IsWithinDocument, document_outcome}
use Rattle.pq_command.specs.Frames.{change_frame, install_frame, refusal_frame}
use Rattle.pq_command.specs.Reading.{document_limit}

-- the most pieces of a session
abbrev pub pieces_limit : ℕ
pieces_limit = 10000

-- the messages to each switch are lawful, and fewer than four bytes can count
abbrev pub AreLawfulChanges : List (ℕ × List Message) → Type 0
AreLawfulChanges changed = All {X = ℕ × List Message} (λ c. IsLawfulList c.1) changed

-- Edits.

-- the current document, and its install
pub record Current : Type 0 where
  pub document : DocumentTree
  pub install : Install

abbrev pub current_of : EngineValue → Current
current_of e = record { document = e.document; install = e.install }

-- the outcome is that of the first fault of a text as an edit of the document
abbrev pub IsEditTextFault : Outcome → DocumentTree → List ℕ → Type 0
IsEditTextFault outcome d text = (f : DocumentFault) × (outcome ≡ document_outcome f) × IsEditFault text d f

-- why a text makes no edit of the document: its first fault, or the first limit that the edited document is beyond
abbrev pub HasNoEdit : Outcome → DocumentTree → List ℕ → Type 0
HasNoEdit outcome d text = IsEditTextFault outcome d text ⊎ ((e : EditTree) × SpellsEdit text d e × IsLimitFault outcome (edited d e))

-- the piece spells an edit of the current document; the next one is the edited document, and the frame has what changes the tables
pub record IsAccepted (c : Current) (piece bytes : List ℕ) (next : Current) : Type 0 where
  pub edit : EditTree
  pub spelled : SpellsEdit piece c.document edit
  pub document : next.document ≡ edited c.document edit
  pub installed : IsInstalled next.document next.install
  pub framed : bytes ≡ change_frame (delta c.install next.install)

-- the piece makes no edit; the document stays, and the frame says why
pub record IsRefused (c : Current) (piece bytes : List ℕ) (next : Current) : Type 0 where
  pub outcome : Outcome
  pub told : HasNoEdit outcome c.document piece
  pub not_memory : outcome ≢ Memory
  pub same : next ≡ c
  pub framed : bytes ≡ refusal_frame outcome

-- what a piece does to the current document, and the frame for it
abbrev pub IsStep : Current → (piece bytes : List ℕ) → Current → Type 0
IsStep c piece bytes next = IsAccepted c piece bytes next ⊎ IsRefused c piece bytes next

-- so each piece after the one before it, with all their frames
abbrev pub AreSteps : Current → List (List ℕ) → List ℕ → Current → Type 0
AreSteps c [] bytes last = (bytes ≡ []) × (last ≡ c)
AreSteps c (piece ∷ pieces) bytes last =
    (first : List ℕ) × (rest : List ℕ) × (next : Current) × IsStep c piece first next × AreSteps next pieces rest last × (bytes ≡ first ++ rest)

-- the first piece is a document, and the others are judged as edits: these are their frames, and the current document after them
pub record AreFramesTo (first : List ℕ) (others : List (List ℕ)) (frames : List ℕ) (last : Current) : Type 0 where
  pub start : Current
  pub rest : List ℕ
  pub spelled : Spells first start.document
  pub installed : IsInstalled start.document start.install
  pub steps : AreSteps start others rest last
  pub framed : frames ≡ install_frame start.install ++ rest

-- these are the frames of the pieces, and none before the first piece
abbrev pub AreFrames : List (List ℕ) → List ℕ → Type 0
AreFrames [] frames = frames ≡ []
AreFrames (first ∷ others) frames = (last : Current) × AreFramesTo first others frames last

-- What was read.

-- the known input is these pieces, and then those of what is pending and of what is left; all but what is left was read
abbrev pub HasParted : Streams → List (List ℕ) → List ℕ → Type 0
HasParted s pieces pending =
    Reads s (λ text. IfSome s.left (λ input. IfSome s.rest (λ rest. pieces_of input ≡ pieces ++ pieces_of (pending ++ rest))))

-- the known input is these pieces, and nothing is left
abbrev pub HasAll : Streams → List (List ℕ) → Type 0
HasAll s pieces = Reads s (λ text. IsAtEnd s.rest × IfSome s.left (λ input. pieces_of input ≡ pieces))

-- this piece is the first, and no more than a chunk after it was read
abbrev pub HasFirst : Streams → List ℕ → Type 0
HasFirst s first = HasAll s (first ∷ []) ⊎ ((pending : List ℕ) × HasParted s (first ∷ []) pending × (length pending ≤ chunk_size))

-- What each outcome says.

-- how bytes are put: all of them, or a part of them
abbrev pub Putting : Type 1
Putting = Option (List ℕ) → Option (List ℕ) → List ℕ → Type 0

-- all pieces were read, and so are their frames and the last install put
pub record IsEnded (s : Streams) (Put : Putting) : Type 0 where
  pub first : List ℕ
  pub others : List (List ℕ)
  pub frames : List ℕ
  pub last : Current
  pub read : HasAll s (first ∷ others)
  pub few : length others < pieces_limit
  pub framed : AreFramesTo first others frames last
  pub put : Put s.before s.after (frames ++ install_frame last.install)

-- these pieces were parted from what follows them, which was read as far as it is pending, and so are their frames put
pub record IsStopped (s : Streams) (Put : Putting) (Why : List (List ℕ) → List ℕ → Type 0) : Type 0 where
  pub pieces : List (List ℕ)
  pub pending : List ℕ
  pub frames : List ℕ
  pub read : HasParted s pieces pending
  pub why : Why pieces pending
  pub framed : AreFrames pieces frames
  pub put : Put s.before s.after frames

-- what each outcome says of the pieces that were read, and of what was put
abbrev pub IsSessionAnswer : Outcome → Streams → Type 0
IsSessionAnswer Done s = IsEnded s Appends
IsSessionAnswer WriteFault s = IsStopped s AppendsPart (λ pieces pending. length pending ≤ chunk_size) ⊎ IsEnded s AppendsPart
IsSessionAnswer Memory s = IsStopped s AppendsPart (λ pieces pending. Unit {0}) ⊎ IsEnded s AppendsPart
IsSessionAnswer ReadFault s = IsStopped s Appends (λ pieces pending. IsOpen document_limit pending)
IsSessionAnswer TooLong s = IsStopped s Appends (λ pieces pending. IfSome s.rest (λ rest. BeginsLong document_limit (pieces_of (pending ++ rest))))
IsSessionAnswer SessionFull s = IsStopped s Appends (λ pieces pending. (length pieces ≡ pieces_limit) × (length pending ≤ chunk_size))
IsSessionAnswer Words s = ⊥
IsSessionAnswer outcome s = (first : List ℕ) × HasFirst s first × HasNoInstall outcome first

-- the outcome of what keeps a piece from being read
abbrev pub unread_outcome : Unread → Outcome
unread_outcome unread.Failed = ReadFault
unread_outcome unread.TooLong = TooLong
unread_outcome unread.Memory = Memory

-- In the middle of a session.

-- the frames of all pieces so far were put, after the first one n more; the last of them is the last of all, or bytes are pending after it
pub record IsGoingOn (s : Streams) (pending : List ℕ) (is_last : Bool) (c : Current) (n : ℕ) : Type 0 where
  pub first : List ℕ
  pub others : List (List ℕ)
  pub frames : List ℕ
  pub read : MatchBool is_last (HasAll s (first ∷ others)) (HasParted s (first ∷ others) pending)
  pub count : length others ≡ n
  pub framed : AreFramesTo first others frames c
  pub put : Appends s.before s.after frames

-- bytes were not put as a whole: a write failed, or memory ran out
abbrev pub IsCut : Outcome → Putting
IsCut WriteFault before after bytes = AppendsPart before after bytes
IsCut Memory before after bytes = AppendsPart before after bytes
IsCut outcome before after bytes = ⊥

-- Completeness.

-- the text is a document within all limits and edits, in pieces of the size of a document, of which there are not too many
pub record IsWithinSession (bytes : List ℕ) : Type 0 where
  pub first : List ℕ
  pub others : List (List ℕ)
  pub pieces : pieces_of bytes ≡ first ∷ others
  pub document : IsWithinDocument first
  pub short : All (λ piece. length piece ≤ document_limit) (first ∷ others)
  pub few : length others < pieces_limit
