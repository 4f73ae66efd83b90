-- The pieces of a text from within a line on.
use Rattle.std.specs.Prelude.{◌≡◌, ◌+◌, ◌≤◌, ℕ, List, [], ◌∷◌, ◌++◌, ◌==◌, if◌then◌else◌, length, drop}
use Rattle.std.specs.declared.option.Option.{Option}
use Rattle.std.specs.declared.option.Option.TheVariants.{None, Some}
use Rattle.pq_pieces.specs.declared.line.Line.{Line}
use Rattle.pq_pieces.specs.declared.line.Line.TheVariants.{Start, OneMark, TwoMarks, Other}
use Rattle.pq_pieces.specs.Pieces.{pieces_from, pieces_of}

-- the bytes of a line that belong to no piece yet
abbrev pub marks : Line → List ℕ
marks Start = []
marks OneMark = 37 ∷ []
marks TwoMarks = 37 ∷ 37 ∷ []
marks Other = []

-- how a line that parts no pieces, or the one after it, begins after a byte
abbrev pub after : ℕ → Line
after byte = if byte == 10 then Start else Other

-- the pieces of a text within a line that parts no pieces, where the first piece has these bytes already
abbrev pub within_line : (piece text : List ℕ) → List (List ℕ)
within_line piece [] = piece ∷ []
within_line piece (b ∷ bs) = if b == 10 then pieces_from (piece ++ 10 ∷ []) [] bs else within_line (piece ++ b ∷ []) bs

-- so within any line
abbrev pub going : Line → (piece text : List ℕ) → List (List ℕ)
going Start piece text = pieces_from piece [] text
going OneMark piece text = pieces_from piece (37 ∷ []) text
going TwoMarks piece text = pieces_from piece (37 ∷ 37 ∷ []) text
going Other piece text = within_line piece text

-- how many bytes of the piece and of its line there are
abbrev pub held : Line → List ℕ → ℕ
held line piece = length piece + length (marks line)

-- within another line the piece has these bytes, after some bytes more
pub record GoesOn (line : Line) (old more : List ℕ) (next : Line) (piece : List ℕ) : Type 0 where
  pub same : (rest : List ℕ) → going line old (more ++ rest) ≡ going next piece rest
  pub held : held next piece ≡ held line old + length more

-- the piece is parted from the next by the first bytes of some
pub record IsParted (line : Line) (old more : List ℕ) (used : ℕ) (piece : List ℕ) : Type 0 where
  pub same : (rest : List ℕ) → going line old (more ++ rest) ≡ piece ∷ pieces_of (drop used more ++ rest)
  pub within : used ≤ length more

-- what one byte does
abbrev pub Takes : Line → List ℕ → ℕ → List ℕ → Option Line → Type 0
Takes line old byte piece (Some next) = GoesOn line old (byte ∷ []) next piece
Takes line old byte piece None = IsParted line old (byte ∷ []) 1 piece × (piece ≡ old)
