-- What a scan of bytes finds.
use Rattle.std.specs.Prelude.{ℕ, List}
use Rattle.pq_pieces.specs.declared.line.Line.{Line}
use Rattle.pq_pieces.specs.declared.unread.Unread.{Unread}
use Rattle.pq_pieces.specs.declared.unread.Unread.TheVariants.{Failed, TooLong, Memory}
use Rattle.pq_pieces.specs.declared.scan.Found.{Found}
use Rattle.pq_pieces.specs.declared.scan.Found.TheVariants.{Parted, Going}
use Rattle.pq_pieces.specs.Pieces.{BeginsLong}
use Rattle.pq_pieces.specs.Lines.{GoesOn, IsParted}

-- the piece ends within the bytes, or goes on after them
abbrev pub Finds : Line → List ℕ → List ℕ → Found → List ℕ → Type 0
Finds line old bytes (Parted used) piece = IsParted line old bytes used piece
Finds line old bytes (Going next) piece = GoesOn line old bytes next piece

-- why no piece was found among these: the first has more bytes than the limit
abbrev pub IsStopped : Unread → ℕ → List (List ℕ) → Type 0
IsStopped Failed limit pieces = ⊥
IsStopped TooLong limit pieces = BeginsLong limit pieces
IsStopped Memory limit pieces = Unit {0}
