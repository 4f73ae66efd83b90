-- The token that comes next in a text.
use Rattle.std.specs.Prelude.{ℕ, ◌+◌, ◌-◌, ◌<◌, ◌≤◌, Bool, true, false, not, if◌then◌else◌, List, [], ◌∷◌, length, take, drop, ◌==◌, Option}
use Rattle.std.specs.Prelude.{Some, None, take_while, codes, bytes_eq}
use Rattle.std.specs.Str.{byte}
use Rattle.pq_term.specs.declared.token.Kind.{Kind}
use Rattle.pq_term.specs.declared.token.Kind.TheVariants.{Symbol}
use Rattle.pq_term.specs.declared.token.Token.{Token}
use Rattle.pq_term.specs.declared.token.Next.{Next}
use Rattle.pq_term.specs.declared.token.Next.TheVariants.{Token as Found, End, NoToken}
use Rattle.pq_term.specs.Bytes.{is_blank, is_run_byte, is_symbol}
use Rattle.pq_term.specs.Forms.{form_of, HasForm}

-- what follows white space and comments; the flag tells that the text begins inside a comment
abbrev pub after_blanks : Bool → List ℕ → List ℕ
after_blanks inside [] = []
after_blanks false (b ∷ bs) =
    if is_blank b then after_blanks false bs
    else (if b == byte "#" then after_blanks true bs
    else b ∷ bs)
after_blanks true (b ∷ bs) = after_blanks (not (b == byte "\n")) bs

-- a token of this kind at the place, or none that begins there
abbrev pub token_or_none : ℕ → ℕ → Option Kind → Next
token_or_none place len None = NoToken place
token_or_none place len (Some kind) = Found (record { kind = kind; at = place; len = len })

-- a run that begins at the place
abbrev pub run_token : ℕ → List ℕ → Next
run_token place run = token_or_none place (length run) (form_of run)

-- the token that a text begins with, which is at the place: a run as long as can be, a symbol of one byte, or `>>`
abbrev pub first_token : ℕ → List ℕ → Next
first_token place [] = End
first_token place (b ∷ bs) =
    if is_run_byte b then run_token place (take_while is_run_byte (b ∷ bs))
    else (if is_symbol b then token_or_none place 1 (Some Symbol)
    else (if bytes_eq (take 2 (b ∷ bs)) (codes ">>") then token_or_none place 2 (Some Symbol)
    else NoToken place))

-- what comes next in the text from the place on
abbrev pub next_of : List ℕ → ℕ → Next
next_of bytes at = let rest = after_blanks false (drop at bytes) in first_token (length bytes - length rest) rest

-- a token begins at or after the first place, has a byte, and ends by the second; what is not a token has its first byte between them
abbrev pub IsWithin : ℕ → ℕ → Next → Type 0
IsWithin at end (Found t) = (at ≤ t.at) × (1 ≤ t.len) × (t.at + t.len ≤ end)
IsWithin at end End = Unit {0}
IsWithin at end (NoToken place) = (at ≤ place) × (place < end)

-- the bytes of a token
abbrev pub text_of : List ℕ → Token → List ℕ
text_of bytes t = take t.len (drop t.at bytes)

-- a token's bytes have the form of its kind
abbrev pub HasItsForm : List ℕ → Token → Type 0
HasItsForm bytes t = HasForm t.kind (text_of bytes t)

-- what is found has the form of its kind
abbrev pub IsFormed : List ℕ → Next → Type 0
IsFormed bytes (Found t) = HasItsForm bytes t
IsFormed bytes End = Unit {0}
IsFormed bytes (NoToken place) = Unit {0}
