-- The bytes that a text is made of.
use Rattle.std.specs.Prelude.{ℕ, Bool, ◌||◌, List, ◌==◌, codes}
use Rattle.std.specs.Char.{is_ascii_alphanumeric}
use Rattle.std.specs.List.{list_any}

-- the byte is one of these
abbrev pub is_among : List ℕ → ℕ → Bool
is_among bytes b = list_any (λ c. c == b) bytes

-- white space
abbrev pub is_blank : ℕ → Bool
is_blank b = is_among (codes "\t\n\r ") b

-- a letter, a digit or `_`
abbrev pub is_word_byte : ℕ → Bool
is_word_byte b = is_ascii_alphanumeric b || is_among (codes "_") b

-- a byte of a run
abbrev pub is_run_byte : ℕ → Bool
is_run_byte b = is_word_byte b || is_among (codes ".:/") b

-- a symbol of one byte
abbrev pub is_symbol : ℕ → Bool
is_symbol b = is_among (codes "=;,()[]+^|&~*") b
