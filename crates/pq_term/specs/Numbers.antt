-- Numbers, as digits spell them.
use Rattle.std.specs.Prelude.{ℕ, ◌+◌, ◌-◌, ◌*◌, ◌^◌, Bool, false, not, ◌&&◌, ◌||◌, if◌then◌else◌, List, [], ◌∷◌, length, take, drop, fold}
use Rattle.std.specs.Prelude.{nat_lt, nat_le, ◌==◌, Option, Some, None, codes, bytes_eq}
use Rattle.std.specs.Char.{is_ascii_digit, is_ascii_uppercase, is_ascii_hexdigit}
use Rattle.std.specs.List.{list_all}
use Rattle.std.specs.Str.{byte}

-- the value of a hexadecimal digit in either case
abbrev pub digit_value : ℕ → ℕ
digit_value b =
    if is_ascii_digit b then b - byte "0"
    else (if is_ascii_uppercase b then b - byte "A" + 10
    else b - (byte "a" - 10))

-- a digit of the base, which is at most sixteen
abbrev pub is_digit : ℕ → ℕ → Bool
is_digit base b = is_ascii_hexdigit b && nat_lt (digit_value b) base

-- the value of digits that follow others of the value so far
abbrev pub value_after : ℕ → ℕ → List ℕ → ℕ
value_after base so_far digits = fold (λ value b. value * base + digit_value b) so_far digits

-- the value of digits of the base, the most significant first
abbrev pub value_of : ℕ → List ℕ → ℕ
value_of base digits = value_after base 0 digits

-- `0`, or digits that begin with another one
abbrev pub is_plain : List ℕ → Bool
is_plain [] = false
is_plain (b ∷ bs) = list_all (is_digit 10) (b ∷ bs) && (not (b == byte "0") || length bs == 0)

-- a decimal number without leading zeros, at most this one
abbrev pub is_decimal : ℕ → List ℕ → Bool
is_decimal most bs = is_plain bs && nat_le (value_of 10 bs) most

-- this many hexadecimal digits, at least and at most
abbrev pub is_hex : ℕ → ℕ → List ℕ → Bool
is_hex least most bs = nat_le least (length bs) && nat_le (length bs) most && list_all (is_digit 16) bs

-- `0x`, and one to sixteen hexadecimal digits
abbrev pub is_hexadecimal : List ℕ → Bool
is_hexadecimal bs = bytes_eq (take 2 bs) (codes "0x") && is_hex 1 16 (drop 2 bs)

-- the value of a number as a text spells it, decimal or hexadecimal, if the text is one
abbrev pub number_of : List ℕ → Option ℕ
number_of bs =
    if is_decimal (2 ^ 64 - 1) bs then Some (value_of 10 bs)
    else (if is_hexadecimal bs then Some (value_of 16 (drop 2 bs))
    else None)

-- the value of a decimal number without leading zeros, where the text is one and at most this one
abbrev pub decimal_of : ℕ → List ℕ → Option ℕ
decimal_of most bs = if is_decimal most bs then Some (value_of 10 bs) else None
