-- Pieces that are read one after another.
use Rattle.std.proofs.Common.{◌≡◌, ℕ, Bool, true, false, List, [], ◌∷◌, ◌++◌, refl, sym, ap, ◌∙◌, subst, append_assoc, append-nil, Option, Some, None}
use Rattle.std.specs.Prelude.{MatchBool}
use Rattle.std.specs.Io.KnownBytes.{Consumes}
use Rattle.std.proofs.KnownBytes.{Consumes-trans}
use Rattle.pq_pieces.specs.declared.piece.Piece.{Piece}
use Rattle.pq_pieces.specs.Pieces.{pieces_of}
use Rattle.pq_pieces.specs.Reading.{IsFirst, IsNext, IsOnly, Reads}
use Rattle.pq_command.specs.Answers.{streams}
use Rattle.pq_command.specs.Sessions.{HasAll, HasParted}

-- what is read doesn't tell what is put
abbrev pub Parted : (left rest : Option (List ℕ)) → List (List ℕ) → List ℕ → Type 0
Parted left rest pieces pending = HasParted (streams left rest None None) pieces pending

abbrev pub Whole : (left rest : Option (List ℕ)) → List (List ℕ) → Type 0
Whole left rest pieces = HasAll (streams left rest None None) pieces

-- nothing was read yet
pub none_parted : (left : Option (List ℕ)) → Parted left left [] []
none_parted None = ([], tt, tt)
none_parted (Some input) = ([], refl, refl)

-- bytes that are read are pending
pub read_on : (left mid now : Option (List ℕ)) (pieces : List (List ℕ)) (pending read : List ℕ)
    → Parted left mid pieces pending → Consumes mid now read → Parted left now pieces (pending ++ read)
read_on None mid now pieces pending read (text, taken, is) took = (text, tt, tt)
read_on (Some input) None now pieces pending read (text, taken, is) took = absurd taken
read_on (Some input) (Some rest) None pieces pending read (text, taken, is) took = absurd took
read_on (Some input) (Some rest) (Some after) pieces pending read (text, taken, is) took = (
  text ++ read,
  Consumes-trans (Some input) (Some rest) (Some after) text read taken took,
  is ∙ ap (λ (t : List ℕ). pieces ++ pieces_of t) (ap (λ (t : List ℕ). pending ++ t) took ∙ sym (append_assoc pending read after)),
)

-- the only piece of what is pending and read is the last
only_comes : (left mid now : Option (List ℕ)) (pieces : List (List ℕ)) (pending read piece : List ℕ)
    → Parted left mid pieces pending → Consumes mid now read → IsOnly (pending ++ read) now piece → Whole left now (pieces ++ piece ∷ [])
only_comes None mid now pieces pending read piece (text, taken, is) took only = (text, tt, (only.ended, tt))
only_comes (Some input) None now pieces pending read piece (text, taken, is) took only = absurd taken
only_comes (Some input) (Some rest) None pieces pending read piece (text, taken, is) took only = absurd took
only_comes (Some input) (Some rest) (Some after) pieces pending read piece (text, taken, is) took only = (
  text ++ read,
  Consumes-trans (Some input) (Some rest) (Some after) text read taken took,
  (
    only.ended,
    is ∙ ap (λ (t : List ℕ). pieces ++ pieces_of t) (ap (λ (t : List ℕ). pending ++ t) (took ∙ ap (λ (t : List ℕ). read ++ t) only.ended ∙ append-nil read))
        ∙ ap (λ (ps : List (List ℕ)). pieces ++ ps) only.only,
  ),
)

-- the first of them is parted from what follows
first_comes : (left mid now : Option (List ℕ)) (pieces : List (List ℕ)) (pending read piece new : List ℕ)
    → Parted left mid pieces pending → Consumes mid now read → IsFirst (pending ++ read) now new piece → Parted left now (pieces ++ piece ∷ []) new
first_comes None mid now pieces pending read piece new (text, taken, is) took first = (text, tt, tt)
first_comes (Some input) None now pieces pending read piece new (text, taken, is) took first = absurd taken
first_comes (Some input) (Some rest) None pieces pending read piece new (text, taken, is) took first = absurd took
first_comes (Some input) (Some rest) (Some after) pieces pending read piece new (text, taken, is) took first = (
  text ++ read,
  Consumes-trans (Some input) (Some rest) (Some after) text read taken took,
  is ∙ ap (λ (t : List ℕ). pieces ++ pieces_of t) (ap (λ (t : List ℕ). pending ++ t) took ∙ sym (append_assoc pending read after))
      ∙ ap (λ (ps : List (List ℕ)). pieces ++ ps) first ∙ sym (append_assoc pieces (piece ∷ []) (pieces_of (new ++ after))),
)

-- the next piece is the last, or is parted from what follows
pub comes : (left mid now : Option (List ℕ)) (pieces : List (List ℕ)) (pending new : List ℕ) (p : Piece)
    → Parted left mid pieces pending → Reads mid now (λ read. IsNext (pending ++ read) now new p)
    → MatchBool p.is_last (Whole left now (pieces ++ p.text.items ∷ [])) (Parted left now (pieces ++ p.text.items ∷ []) new)
comes left mid now pieces pending new p parted (read, took, next) = by p.is_last refl
  where
    by : (last : Bool) → p.is_last ≡ last
        → MatchBool p.is_last (Whole left now (pieces ++ p.text.items ∷ [])) (Parted left now (pieces ++ p.text.items ∷ []) new)
    by true is =
        let only = subst (λ b. MatchBool b (IsOnly (pending ++ read) now p.text.items) (IsFirst (pending ++ read) now new p.text.items)) is next in
        subst (λ b. MatchBool b (Whole left now (pieces ++ p.text.items ∷ [])) (Parted left now (pieces ++ p.text.items ∷ []) new)) (sym is)
        (only_comes left mid now pieces pending read p.text.items parted took only)
    by false is =
        let first = subst (λ b. MatchBool b (IsOnly (pending ++ read) now p.text.items) (IsFirst (pending ++ read) now new p.text.items)) is next in
        subst (λ b. MatchBool b (Whole left now (pieces ++ p.text.items ∷ [])) (Parted left now (pieces ++ p.text.items ∷ []) new)) (sym is)
        (first_comes left mid now pieces pending read p.text.items new parted took first)
