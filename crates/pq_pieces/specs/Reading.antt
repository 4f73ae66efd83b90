-- Reading the pieces of an input one by one.
use Rattle.std.specs.Prelude.{◌≡◌, ◌≤◌, ◌<◌, ℕ, Bool, true, false, List, [], ◌∷◌, ◌++◌, length, Result, Ok, Err, MatchBool, IfSome}
use Rattle.std.specs.Io.KnownBytes.{Consumes, IsAtEnd}
use Rattle.std.specs.declared.option.Option.{Option}
use Rattle.std.specs.declared.option.Option.TheVariants.{None, Some}
use Rattle.pq_io.specs.Faults.{Rose}
use Rattle.pq_pieces.specs.declared.line.Line.{Line}
use Rattle.pq_pieces.specs.declared.unread.Unread.{Unread}
use Rattle.pq_pieces.specs.declared.unread.Unread.TheVariants.{Failed, TooLong, Memory}
use Rattle.pq_pieces.specs.declared.piece.Piece.{Piece}
use Rattle.pq_pieces.specs.Pieces.{BeginsLong, pieces_of}
use Rattle.pq_pieces.specs.Lines.{GoesOn, going}

-- how many bytes are asked for at once
abbrev pub chunk_size : ℕ
chunk_size = 16384

-- how far an input was read: the bytes that were read and belong to no piece yet, and whether the input has ended
pub record Reading : Type 0 where
  pub pending : List ℕ
  pub is_ended : Bool

-- the piece is the first of a text and what is left, and was parted from the others, which are those of what is pending and of what is left
abbrev pub IsFirst : (text : List ℕ) → (left : Option (List ℕ)) → (pending piece : List ℕ) → Type 0
IsFirst text left pending piece = IfSome left (λ rest. pieces_of (text ++ rest) ≡ piece ∷ pieces_of (pending ++ rest))

-- the piece is the only one of a text, and nothing is left
pub record IsOnly (text : List ℕ) (left : Option (List ℕ)) (piece : List ℕ) : Type 0 where
  pub only : pieces_of text ≡ piece ∷ []
  pub ended : IsAtEnd left

abbrev pub IsNext : (text : List ℕ) → (left : Option (List ℕ)) → (pending : List ℕ) → Piece → Type 0
IsNext text left pending p = MatchBool p.is_last (IsOnly text left p.text.items) (IsFirst text left pending p.text.items)

-- the text ends within its first piece, of which it has at most this many bytes: it has no whole line that parts it from the next
pub record IsOpen (limit : ℕ) (text : List ℕ) : Type 0 where
  pub line : Line
  pub piece : List ℕ
  pub within : (rest : List ℕ) → pieces_of (text ++ rest) ≡ going line piece rest
  pub short : length piece ≤ limit

-- why no piece was read: a read failed within the first one, or that has more bytes than the limit
abbrev pub IsUnread : Unread → ℕ → (text : List ℕ) → (left : Option (List ℕ)) → Type 0
IsUnread Failed limit text left = IsOpen limit text
IsUnread TooLong limit text left = IfSome left (λ rest. BeginsLong limit (pieces_of (text ++ rest)))
IsUnread Memory limit text left = Unit {0}

-- some bytes were read, with this property
abbrev pub Reads : (left rest : Option (List ℕ)) → (List ℕ → Type 0) → Type 0
Reads left rest P = (read : List ℕ) × Consumes left rest read × P read

-- the count of faults rose where a read failed, and else is as before
abbrev pub HasReadCause : {T : Type 0} → Result T Unread → ℕ → ℕ → Type 0
HasReadCause (Ok t) before now = now ≡ before
HasReadCause (Err Failed) before now = Rose before now
HasReadCause (Err TooLong) before now = now ≡ before
HasReadCause (Err Memory) before now = now ≡ before

-- within a piece: where nothing parts it from the next, it goes on, and nothing is pending; else it is the first
abbrev pub Looks : Line → List ℕ → (before after : Reading) → Option Line → List ℕ → Type 0
Looks line old before after (Some next) piece = GoesOn line old before.pending next piece × (after.pending ≡ [])
Looks line old before after None piece = (rest : List ℕ) → going line old (before.pending ++ rest) ≡ piece ∷ pieces_of (after.pending ++ rest)

-- the end of the input ends the piece
abbrev pub IsFinished : Line → List ℕ → Piece → Type 0
IsFinished line old p = MatchBool p.is_last (going line old [] ≡ p.text.items ∷ []) (going line old [] ≡ p.text.items ∷ pieces_of [])

-- bytes were read where the input has not ended
pub record IsFilled (after : Reading) : Type 0 where
  pub some : after.is_ended ≡ false → 0 < length after.pending
  pub none : after.is_ended ≡ true → after.pending ≡ []

-- bytes were read, of which the text's first piece has these so far; these are pending
abbrev pub IsWithin : (before : List ℕ) → (left rest : Option (List ℕ)) → (pending : List ℕ) → Line → (piece : List ℕ) → Type 0
IsWithin before left rest pending line piece =
    Reads left rest (λ read. (more : List ℕ) → pieces_of ((before ++ read) ++ more) ≡ going line piece (pending ++ more))
