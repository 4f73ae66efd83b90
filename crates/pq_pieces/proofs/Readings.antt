-- Reading on within a piece.
use Rattle.std.proofs.Common.{◌≡◌, ◌+◌, ◌≤◌, ◌<◌, ℕ, zero, suc, Bool, true, false, List, [], ◌∷◌, ◌++◌, length, refl, sym, ap, subst, ◌∙◌}
use Rattle.std.proofs.Common.{arith, append-nil, append_assoc}
use Rattle.std.specs.Prelude.{Option, None, Some, Err, IfSome, MatchBool}
use Rattle.std.specs.Io.KnownBytes.{Consumes, IsAtEnd}
use Rattle.std.proofs.KnownBytes.{Consumes-trans}
use Rattle.pq_pieces.specs.declared.line.Line.{Line}
use Rattle.pq_pieces.specs.declared.line.Line.TheVariants.{Start}
use Rattle.pq_pieces.specs.declared.piece.Piece.{Piece}
use Rattle.pq_pieces.specs.declared.unread.Unread.{Unread}
use Rattle.pq_pieces.specs.declared.unread.Unread.TheVariants.{Failed, TooLong, Memory}
use Rattle.pq_pieces.specs.Pieces.{BeginsLong, pieces_of}
use Rattle.pq_pieces.specs.Lines.{GoesOn, going}
use Rattle.pq_pieces.specs.Reading.{HasReadCause, IsFinished, IsFirst, IsNext, IsOnly, IsUnread, IsWithin, Reads}
use Rattle.pq_pieces.specs.Scans.{IsStopped}

-- of known bytes what holds of any
if_known : (P : List ℕ → Type 0) (known : Option (List ℕ)) → ((rest : List ℕ) → P rest) → IfSome known P
if_known P None any = tt
if_known P (Some rest) any = any rest

-- nothing was read yet
pub begins : (before : List ℕ) (left : Option (List ℕ)) → IsWithin before left left before Start []
begins before None = ([], tt, λ more. ap (λ t. pieces_of (t ++ more)) (append-nil before))
begins before (Some bytes) = ([], refl, λ more. ap (λ t. pieces_of (t ++ more)) (append-nil before))

-- what was pending was looked at, and other bytes were read
pub goes_on_reading : (before : List ℕ) (left mid rest : Option (List ℕ)) (pending : List ℕ) (line : Line) (piece : List ℕ) (next : Line) (new more : List ℕ)
    → IsWithin before left mid pending line piece → GoesOn line piece pending next new → Consumes mid rest more → IsWithin before left rest more next new
goes_on_reading before left mid rest pending line piece next new more (read, taken, within) gone took = (
  read ++ more,
  Consumes-trans left mid rest read more taken took,
  λ others. ap (λ t. pieces_of (t ++ others)) (sym (append_assoc before read more))
      ∙ (ap pieces_of (append_assoc (before ++ read) more others) ∙ (within (more ++ others) ∙ gone.same (more ++ others))),
)

-- the piece has ended before what is pending now
pub is_first : (before : List ℕ) (left rest : Option (List ℕ)) (pending : List ℕ) (line : Line) (piece new after : List ℕ) (p : Piece)
    → p.is_last ≡ false → p.text.items ≡ new
    → IsWithin before left rest pending line piece → ((more : List ℕ) → going line piece (pending ++ more) ≡ new ∷ pieces_of (after ++ more))
    → Reads left rest (λ read. IsNext (before ++ read) rest after p)
is_first before left rest pending line piece new after p not_last is (read, taken, within) ended = (
  read,
  taken,
  subst (λ b. MatchBool b (IsOnly (before ++ read) rest p.text.items) (IsFirst (before ++ read) rest after p.text.items)) (sym not_last)
      (subst (IsFirst (before ++ read) rest after) (sym is)
      (if_known (λ more. pieces_of ((before ++ read) ++ more) ≡ new ∷ pieces_of (after ++ more)) rest (λ more. within more
      ∙ ended more))),
)

-- the piece is too long, whatever is left
pub is_stopped : (before : List ℕ) (left rest : Option (List ℕ)) (pending : List ℕ) (line : Line) (piece : List ℕ) (limit : ℕ) (unread : Unread)
    → IsWithin before left rest pending line piece → ((more : List ℕ) → IsStopped unread limit (going line piece (pending ++ more)))
    → Reads left rest (λ read. IsUnread unread limit (before ++ read) rest)
is_stopped before left rest pending line piece limit Failed (read, taken, within) stopped = absurd (stopped [])
is_stopped before left rest pending line piece limit TooLong (read, taken, within) stopped = (
  read,
  taken,
  if_known (λ more. BeginsLong limit (pieces_of ((before ++ read) ++ more))) rest
      (λ more. subst (BeginsLong limit) (sym (within more)) (stopped more)),
)
is_stopped before left rest pending line piece limit Memory (read, taken, within) stopped = (read, taken, tt)

-- a read failed within the piece
pub is_open : (before : List ℕ) (left rest : Option (List ℕ)) (line : Line) (piece : List ℕ) (limit : ℕ)
    → IsWithin before left rest [] line piece → length piece ≤ limit
    → Reads left rest (λ read. IsUnread Failed limit (before ++ read) rest)
is_open before left rest line piece limit (read, taken, within) short = (read, taken, record { line = line; piece = piece; within = within; short = short })

-- of known bytes of which none is left
if_none : (P : List ℕ → Type 0) (known : Option (List ℕ)) → IsAtEnd known → P [] → IfSome known P
if_none P None ended none = tt
if_none P (Some rest) ended none = subst P (sym ended) none

-- the input ended within the piece
pub is_finished : (before : List ℕ) (left rest : Option (List ℕ)) (line : Line) (piece : List ℕ) (p : Piece)
    → IsWithin before left rest [] line piece → IsAtEnd rest → IsFinished line piece p
    → Reads left rest (λ read. IsNext (before ++ read) rest [] p)
is_finished before left rest line piece p (read, taken, within) ended finished = by p.is_last refl
  where
    whole : pieces_of (before ++ read) ≡ going line piece []
    whole = ap pieces_of (sym (append-nil (before ++ read))) ∙ within []

    by : (last : Bool) → p.is_last ≡ last → Reads left rest (λ read. IsNext (before ++ read) rest [] p)
    by true is =
        let only = subst (λ b. MatchBool b (going line piece [] ≡ p.text.items ∷ []) (going line piece [] ≡ p.text.items ∷ pieces_of [])) is finished in (
          read,
          taken,
          subst (λ b. MatchBool b (IsOnly (before ++ read) rest p.text.items) (IsFirst (before ++ read) rest [] p.text.items))
              (sym is) (record { only = whole ∙ only; ended = ended }),
        )
    by false is =
        let first = subst (λ b. MatchBool b (going line piece [] ≡ p.text.items ∷ []) (going line piece [] ≡ p.text.items ∷ pieces_of [])) is finished in (
          read,
          taken,
          subst (λ b. MatchBool b (IsOnly (before ++ read) rest p.text.items) (IsFirst (before ++ read) rest [] p.text.items)) (sym is)
              (if_none (λ more. pieces_of ((before ++ read) ++ more) ≡ p.text.items ∷ pieces_of more) rest ended (within [] ∙ first)),
        )

-- the input ended, and the piece is too long
pub is_stopped_at_end : (before : List ℕ) (left rest : Option (List ℕ)) (line : Line) (piece : List ℕ) (limit : ℕ) (unread : Unread)
    → IsWithin before left rest [] line piece → IsAtEnd rest → IsStopped unread limit (going line piece [])
    → Reads left rest (λ read. IsUnread unread limit (before ++ read) rest)
is_stopped_at_end before left rest line piece limit Failed (read, taken, within) ended stopped = absurd stopped
is_stopped_at_end before left rest line piece limit TooLong (read, taken, within) ended stopped =
    (read, taken, if_none (λ more. BeginsLong limit (pieces_of ((before ++ read) ++ more))) rest ended (subst (BeginsLong limit) (sym (within [])) stopped))
is_stopped_at_end before left rest line piece limit Memory (read, taken, within) ended stopped = (read, taken, tt)

-- what stops a piece is not a fault of a read
pub no_fault : (T : Type 0) (unread : Unread) (limit : ℕ) (pieces : List (List ℕ)) (before now : ℕ) → IsStopped unread limit pieces
    → now ≡ before → HasReadCause {T = T} (Err unread) before now
no_fault T Failed limit pieces before now stopped same = absurd stopped
no_fault T TooLong limit pieces before now stopped same = same
no_fault T Memory limit pieces before now stopped same = same

-- each turn but the first looks at a byte at least
pub one_turn : (turn before more after : ℕ) → turn ≤ before + 1 → (0 < turn → 0 < more) → after ≡ before + more → turn + 1 ≤ after + 1
one_turn zero before more after turns some is = omega arith
one_turn (suc t) before more after turns some is = omega (arith, turns, some (omega arith), is)
