-- A line that can't become `%%` parts no pieces.
use Rattle.std.proofs.Common.{◌≡◌, ◌<◌, ◌+◌, ℕ, Bool, true, false, List, [], ◌∷◌, ◌++◌, refl, sym, ap, subst, ◌∙◌, arith, length}
use Rattle.std.proofs.Common.{length-append, append-nil, append_assoc}
use Rattle.std.proofs.lemmas.Bool.{eqb-true}
use Rattle.std.specs.Prelude.{◌==◌}
use Rattle.pq_pieces.specs.declared.line.Line.{Line}
use Rattle.pq_pieces.specs.declared.line.Line.TheVariants.{Start, OneMark, TwoMarks, Other}
use Rattle.pq_pieces.specs.Pieces.{BeginsLong, is_separator, pieces_from}
use Rattle.pq_pieces.specs.Lines.{GoesOn, after, going, held, marks, within_line}

-- no line that begins so is a separator
abbrev pub PartsNothing : List ℕ → Type 0
PartsNothing line = (more : List ℕ) → is_separator (line ++ more) ≡ false

none_here : (line : List ℕ) → PartsNothing line → is_separator line ≡ false
none_here line parts = subst (λ l. is_separator l ≡ false) (append-nil line) (parts [])

longer : (line : List ℕ) (b : ℕ) → PartsNothing line → PartsNothing (line ++ b ∷ [])
longer line b parts more = subst (λ l. is_separator l ≡ false) (sym (append_assoc line (b ∷ []) more)) (parts (b ∷ more))

-- its bytes are as those of the piece
in_line : (lines line text : List ℕ) → PartsNothing line → pieces_from lines line text ≡ within_line (lines ++ line) text
in_line lines line [] parts = rw (none_here line parts) refl
in_line lines line (b ∷ bs) parts = by (b == 10) refl (in_line lines (line ++ b ∷ []) bs (longer line b parts))
  where
    by : (c : Bool) → (b == 10) ≡ c → pieces_from lines (line ++ b ∷ []) bs ≡ within_line (lines ++ (line ++ b ∷ [])) bs
        → pieces_from lines line (b ∷ bs) ≡ within_line (lines ++ line) (b ∷ bs)
    by true is later = rw (is, none_here line parts) (ap (λ l. pieces_from l [] bs) (sym (append_assoc lines line (10 ∷ []))))
    by false is later = rw is (later ∙ ap (λ l. within_line l bs) (sym (append_assoc lines line (b ∷ []))))

-- after this byte the line is not a separator
abbrev pub Breaks : Line → ℕ → Type 0
Breaks Start b = (b == 37) ≡ false
Breaks OneMark b = (b == 37) ≡ false
Breaks TwoMarks b = (b == 10) ≡ false
Breaks Other b = Unit {0}

-- so the line goes on
pub goes_on : (line : Line) (piece : List ℕ) (b : ℕ) → Breaks line b → GoesOn line piece (b ∷ []) (after b) ((piece ++ marks line) ++ b ∷ [])
goes_on line piece b breaks = record { same = λ rest. same line rest breaks; held = long (b == 10) refl }
  where
    long : (c : Bool) → (b == 10) ≡ c → held (after b) ((piece ++ marks line) ++ b ∷ []) ≡ held line piece + 1
    long true is = rw is (omega (arith, length-append (piece ++ marks line) (b ∷ []), length-append piece (marks line)))
    long false is = rw is (omega (arith, length-append (piece ++ marks line) (b ∷ []), length-append piece (marks line)))

    first : (rest : List ℕ) (c : Bool) → (b == 10) ≡ c → (b == 37) ≡ false → pieces_from piece [] (b ∷ rest) ≡ going (after b) ((piece ++ []) ++ b ∷ []) rest
    first rest true is breaks = rw (eqb-true b 10 is, append-nil piece) refl
    first rest false is breaks = rw (is, append-nil piece) (in_line piece (b ∷ []) rest (λ more. rw breaks refl))

    second : (rest : List ℕ) (c : Bool) → (b == 10) ≡ c → (b == 37) ≡ false
        → pieces_from piece (37 ∷ []) (b ∷ rest) ≡ going (after b) ((piece ++ 37 ∷ []) ++ b ∷ []) rest
    second rest true is breaks = rw (eqb-true b 10 is, append_assoc piece (37 ∷ []) (10 ∷ [])) refl
    second rest false is breaks = rw (is, append_assoc piece (37 ∷ []) (b ∷ [])) (in_line piece (37 ∷ b ∷ []) rest (λ more. rw breaks refl))

    third : (rest : List ℕ) → (b == 10) ≡ false → pieces_from piece (37 ∷ 37 ∷ []) (b ∷ rest) ≡ going (after b) ((piece ++ 37 ∷ 37 ∷ []) ++ b ∷ []) rest
    third rest is = rw (is, append_assoc piece (37 ∷ 37 ∷ []) (b ∷ [])) (in_line piece (37 ∷ 37 ∷ b ∷ []) rest (λ more. refl))

    fourth : (rest : List ℕ) (c : Bool) → (b == 10) ≡ c → within_line piece (b ∷ rest) ≡ going (after b) ((piece ++ []) ++ b ∷ []) rest
    fourth rest true is = rw (eqb-true b 10 is, append-nil piece) refl
    fourth rest false is = rw (is, append-nil piece) refl

    same : (line : Line) (rest : List ℕ) → Breaks line b → going line piece (b ∷ rest) ≡ going (after b) ((piece ++ marks line) ++ b ∷ []) rest
    same Start rest breaks = first rest (b == 10) refl breaks
    same OneMark rest breaks = second rest (b == 10) refl breaks
    same TwoMarks rest breaks = third rest breaks
    same Other rest breaks = fourth rest (b == 10) refl

-- the first piece is no shorter than what it has already
first_long : (limit : ℕ) (lines line text : List ℕ) → limit < length lines → BeginsLong limit (pieces_from lines line text)
first_long limit lines line [] long = by (is_separator line) refl
  where
    by : (c : Bool) → is_separator line ≡ c → BeginsLong limit (pieces_from lines line [])
    by true is = rw is (record { first = lines; others = [] ∷ []; is = refl; long = long })
    by false is = rw is (record { first = lines ++ line; others = []; is = refl; long = omega (arith, long, length-append lines line) })
first_long limit lines line (b ∷ bs) long =
    by (b == 10) (is_separator line) refl refl
    (first_long limit (lines ++ (line ++ 10 ∷ [])) [] bs (omega (arith, long, length-append lines (line ++ 10 ∷ []))))
    (first_long limit lines (line ++ b ∷ []) bs long)
  where
    by : (c d : Bool) → (b == 10) ≡ c → is_separator line ≡ d → BeginsLong limit (pieces_from (lines ++ (line ++ 10 ∷ [])) [] bs)
        → BeginsLong limit (pieces_from lines (line ++ b ∷ []) bs)
        → BeginsLong limit (pieces_from lines line (b ∷ bs))
    by true true is parts ended gone = rw (is, parts) (record { first = lines; others = pieces_from [] [] bs; is = refl; long = long })
    by true false is parts ended gone = rw (is, parts) ended
    by false d is parts ended gone = rw is gone

within_long : (limit : ℕ) (piece text : List ℕ) → limit < length piece → BeginsLong limit (within_line piece text)
within_long limit piece [] long = record { first = piece; others = []; is = refl; long = long }
within_long limit piece (b ∷ bs) long = by (b == 10) refl (within_long limit (piece ++ b ∷ []) bs (omega (arith, long, length-append piece (b ∷ []))))
  where
    by : (c : Bool) → (b == 10) ≡ c → BeginsLong limit (within_line (piece ++ b ∷ []) bs) → BeginsLong limit (within_line piece (b ∷ bs))
    by true is later = rw is (first_long limit (piece ++ 10 ∷ []) [] bs (omega (arith, long, length-append piece (10 ∷ []))))
    by false is later = rw is later

pub stays_long : (limit : ℕ) (line : Line) (piece text : List ℕ) → limit < length piece → BeginsLong limit (going line piece text)
stays_long limit Start piece text long = first_long limit piece [] text long
stays_long limit OneMark piece text long = first_long limit piece (37 ∷ []) text long
stays_long limit TwoMarks piece text long = first_long limit piece (37 ∷ 37 ∷ []) text long
stays_long limit Other piece text long = within_long limit piece text long
