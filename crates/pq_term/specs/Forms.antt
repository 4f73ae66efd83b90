-- The forms that a run may have.
use Rattle.std.specs.Prelude.{ℕ, Bool, false, if◌then◌else◌, ◌&&◌, ◌||◌, List, [], ◌∷◌, length, nat_lt, ◌==◌, is_some, IsSome, IsTrue}
use Rattle.std.specs.Prelude.{codes, bytes_eq, Option, Some, None}
use Rattle.std.specs.Char.{is_ascii_alphabetic}
use Rattle.std.specs.List.{list_all, position_or_len, before_first, after_first}
use Rattle.std.specs.Str.{byte}
use Rattle.pq_term.specs.declared.token.Kind.{Kind}
use Rattle.pq_term.specs.declared.token.Kind.TheVariants.{Word, Number, Mac, Ipv4, Ipv4Prefix, Ipv6, Symbol}
use Rattle.pq_term.specs.declared.groups.Group.TheVariants.{Hex, Decimal}
use Rattle.pq_term.specs.Bytes.{is_word_byte, is_symbol}
use Rattle.pq_term.specs.Numbers.{number_of, is_decimal}
use Rattle.pq_term.specs.Groups.{are_groups}

-- a letter, and then at most 31 letters, digits and `_`
abbrev pub is_word : List ℕ → Bool
is_word [] = false
is_word (b ∷ bs) = is_ascii_alphabetic b && nat_lt (length bs) 32 && list_all is_word_byte bs

-- six groups of two hexadecimal digits, joined by `:`
abbrev pub is_mac : List ℕ → Bool
is_mac bs = are_groups (byte ":") 6 (Hex 2 2) bs

-- four numbers up to 255, joined by `.`
abbrev pub is_ipv4 : List ℕ → Bool
is_ipv4 bs = are_groups (byte ".") 4 (Decimal 255) bs

-- eight groups of one to four hexadecimal digits, joined by `:`
abbrev pub is_ipv6_address : List ℕ → Bool
is_ipv6_address bs = are_groups (byte ":") 8 (Hex 1 4) bs

-- the byte `/`
abbrev pub is_slash : ℕ → Bool
is_slash b = b == byte "/"

-- there is a slash
abbrev pub has_slash : List ℕ → Bool
has_slash bs = nat_lt (position_or_len is_slash bs) (length bs)

-- an address of the form, a slash, and a number up to the address's bits
abbrev pub is_prefix : (List ℕ → Bool) → ℕ → List ℕ → Bool
is_prefix is_address bits bs = has_slash bs && is_address (before_first is_slash bs) && is_decimal bits (after_first is_slash bs)

-- an IPv4 address and the length of its prefix
abbrev pub is_ipv4_prefix : List ℕ → Bool
is_ipv4_prefix bs = is_prefix is_ipv4 32 bs

-- an IPv6 address, with or without the length of its prefix
abbrev pub is_ipv6 : List ℕ → Bool
is_ipv6 bs = is_ipv6_address bs || is_prefix is_ipv6_address 128 bs

-- the kind of token that a whole run is, if it is one
abbrev pub form_of : List ℕ → Option Kind
form_of run =
    if is_word run then Some Word
    else (if is_some (number_of run) then Some Number
    else (if is_mac run then Some Mac
    else (if is_ipv4 run then Some Ipv4
    else (if is_ipv4_prefix run then Some Ipv4Prefix
    else (if is_ipv6 run then Some Ipv6
    else None)))))

-- a symbol of one byte, or `>>`
abbrev pub is_symbol_text : List ℕ → Bool
is_symbol_text [] = false
is_symbol_text (b ∷ []) = is_symbol b
is_symbol_text (b ∷ c ∷ bs) = bytes_eq (b ∷ c ∷ bs) (codes ">>")

-- the text has the form that tokens of the kind have
abbrev pub HasForm : Kind → List ℕ → Type 0
HasForm Word text = IsTrue (is_word text)
HasForm Number text = IsSome (number_of text)
HasForm Mac text = IsTrue (is_mac text)
HasForm Ipv4 text = IsTrue (is_ipv4 text)
HasForm Ipv4Prefix text = IsTrue (is_ipv4_prefix text)
HasForm Ipv6 text = IsTrue (is_ipv6 text)
HasForm Symbol text = IsTrue (is_symbol_text text)
