-- A text in pieces.
use Rattle.std.specs.Prelude.{◌≡◌, ◌<◌, ℕ, Bool, List, [], ◌∷◌, ◌++◌, ◌==◌, if◌then◌else◌, length, bytes_eq}

-- the line is `%%`
abbrev pub is_separator : List ℕ → Bool
is_separator line = bytes_eq line (37 ∷ 37 ∷ [])

-- the pieces of a text, parted by its lines `%%`, each ended by a line feed or by the end of the text; such a line belongs to no piece. The first piece has these whole lines already, and
-- then this beginning of a line
abbrev pub pieces_from : (lines line text : List ℕ) → List (List ℕ)
pieces_from lines line [] = if is_separator line then lines ∷ [] ∷ [] else (lines ++ line) ∷ []
pieces_from lines line (b ∷ bs) =
    if b == 10 then (if is_separator line then lines ∷ pieces_from [] [] bs else pieces_from (lines ++ (line ++ 10 ∷ [])) [] bs)
    else pieces_from lines (line ++ b ∷ []) bs

abbrev pub pieces_of : List ℕ → List (List ℕ)
pieces_of text = pieces_from [] [] text

-- the first piece has more bytes than the limit
pub record BeginsLong (limit : ℕ) (pieces : List (List ℕ)) : Type 0 where
  pub first : List ℕ
  pub others : List (List ℕ)
  pub is : pieces ≡ first ∷ others
  pub long : limit < length first
