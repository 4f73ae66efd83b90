-- Words that the grammar reserves, and names.
use Rattle.std.specs.Prelude.{ℕ, Bool, not, ◌&&◌, List, [], ◌∷◌, codes, bytes_eq}
use Rattle.std.specs.List.{list_any}
use Rattle.pq_term.specs.Forms.{is_word}

-- the reserved words
abbrev pub reserved_words : List (List ℕ)
reserved_words = codes "switch" ∷ codes "ports" ∷ codes "limit" ∷ codes "link" ∷ codes "part" ∷ codes "query" ∷ codes "remove" ∷ codes
    "true" ∷ codes "false" ∷ codes "not" ∷ codes "and" ∷ codes "or" ∷ codes "filter" ∷ codes "mod" ∷ codes "fwd" ∷ codes "flood" ∷ codes
    "drop" ∷ codes "identity" ∷ codes "if" ∷ codes "of" ∷ codes "in_atom" ∷ codes "out_atom" ∷ codes "in_out_atom" ∷ codes "in_group" ∷
    codes "out_group" ∷ codes "in_out_group" ∷ codes "end_atom" ∷ []

-- one of the reserved words
abbrev pub is_reserved : List ℕ → Bool
is_reserved word = list_any (λ reserved. bytes_eq reserved word) reserved_words

-- a word that is not reserved
abbrev pub is_name : List ℕ → Bool
is_name bs = is_word bs && not (is_reserved bs)
