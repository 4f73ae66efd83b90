-- Pieces that are read one after another.
use Rattle.std.proofs.Common.{◌≡◌, ℕ, ◌<◌, ◌≤◌, true, false, List, [], ◌++◌, length, take, drop, sym, ap, ◌∙◌, subst, arith, append-nil}
use Rattle.std.proofs.Common.{length-append, take_all, Option, inl, inr}
use Rattle.std.specs.Io.KnownBytes.{Consumes, IsAtEnd}
use Rattle.std.proofs.KnownBytes.{Consumes-trans}
use Rattle.std.proofs.Math.Seq.{drop-length}
use Rattle.pq_command.specs.declared.reading.Unread.TheVariants as unread
use Rattle.pq_command.specs.Reading.{install_limit, piece_size}
use Rattle.pq_command.specs.Speaks.{IsReadEnough, IsUnread, needs_more}

-- a piece holds what was read into all of it
pub piece-after : (len : ℕ) (into old : List ℕ) → length into ≡ length old → len ≡ length old → take len (into ++ drop (length into) old) ≡ into
piece-after len into old same is =
    let none : drop (length into) old ≡ [] = subst (λ n. drop n old ≡ []) (sym same) (drop-length old) in
    ap (λ rest. take len (into ++ rest)) none ∙ (ap (take len) (append-nil into) ∙ take_all len into (omega (arith, same, is)))

-- the input has ended within the line or the install
pub ended-enough : (left mid now : Option (List ℕ)) (text : List ℕ) → Consumes left mid text → Consumes mid now [] → IsAtEnd now → length text ≤ install_limit
    → needs_more text ≡ true → (length text ≤ install_limit) × Consumes left now text × IsReadEnough now text
ended-enough left mid now text read none end short needs = (
  short,
  subst (Consumes left now) (append-nil text) (Consumes-trans left mid now text [] read none),
  record { needed = (text, [], sym (append-nil text), omega arith, needs); enough = inr end },
)

-- the line and the install are whole with the last piece
pub read-enough : (left mid now : Option (List ℕ)) (text piece all : List ℕ) → all ≡ text ++ piece → Consumes left mid text → Consumes mid now piece
    → length piece ≤ piece_size → length all ≤ install_limit → needs_more text ≡ true → needs_more all ≡ false
    → (length all ≤ install_limit) × Consumes left now all × IsReadEnough now all
read-enough left mid now text piece all is read next room short needs whole = (
  short,
  subst (Consumes left now) (sym is) (Consumes-trans left mid now text piece read next),
  record { needed = (text, piece, is, room, needs); enough = inl whole },
)

-- there are more bytes than may be read
pub read-too-long : (left mid now : Option (List ℕ)) (text piece all : List ℕ) → all ≡ text ++ piece → Consumes left mid text → Consumes mid now piece
    → length piece ≤ piece_size → length text ≤ install_limit → needs_more text ≡ true → install_limit < length all
    → (x : List ℕ) × Consumes left now x × IsUnread unread.TooLong x
read-too-long left mid now text piece all is read next room short needs long =
    (all, subst (Consumes left now) (sym is) (Consumes-trans left mid now text piece read next), (long, (text, piece, is, room, (short, needs))))

-- memory ran out for the last piece
pub read-some : (left mid now : Option (List ℕ)) (text piece : List ℕ) → Consumes left mid text → Consumes mid now piece
    → length piece ≤ piece_size → length text ≤ install_limit
    → (x : List ℕ) × Consumes left now x × IsUnread unread.Memory x
read-some left mid now text piece read next room short =
    (text ++ piece, Consumes-trans left mid now text piece read next, omega (arith, length-append text piece, room, short))
