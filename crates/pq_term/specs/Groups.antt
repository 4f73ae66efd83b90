-- Groups of digits with a byte between each two.
use Rattle.std.specs.Prelude.{ℕ, Bool, ◌&&◌, if◌then◌else◌, List, [], length, nat_lt, ◌==◌, Option, Some, None}
use Rattle.std.specs.List.{list_all, slice_split, position_or_len, before_first, after_first}
use Rattle.pq_term.specs.declared.groups.Group.{Group}
use Rattle.pq_term.specs.declared.groups.Group.TheVariants.{Hex, Decimal}
use Rattle.pq_term.specs.Numbers.{is_hex, is_decimal}

-- a group of this shape
abbrev pub is_group : Group → List ℕ → Bool
is_group (Hex least most) bs = is_hex least most bs
is_group (Decimal most) bs = is_decimal most bs

-- what is between the separators
abbrev pub parts : ℕ → List ℕ → List (List ℕ)
parts separator bs = slice_split (λ b. b == separator) bs

-- this many groups of this shape, joined by the separator
abbrev pub are_groups : ℕ → ℕ → Group → List ℕ → Bool
are_groups separator count group bs = length (parts separator bs) == count && list_all (is_group group) (parts separator bs)

-- what is before the first separator, or all where there is none
abbrev pub before_separator : ℕ → List ℕ → List ℕ
before_separator separator bs = before_first (λ b. b == separator) bs

-- what is after the first separator, where there is one
abbrev pub behind_separator : ℕ → List ℕ → Option (List ℕ)
behind_separator separator bs =
    if nat_lt (position_or_len (λ b. b == separator) bs) (length bs) then Some (after_first (λ b. b == separator) bs)
    else None

-- what is between the separators of a text, where there is a text
abbrev pub parts_in : ℕ → Option (List ℕ) → List (List ℕ)
parts_in separator None = []
parts_in separator (Some bs) = parts separator bs
