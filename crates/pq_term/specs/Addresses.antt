-- Addresses, as numbers.
use Rattle.std.specs.Prelude.{ℕ, ◌+◌, ◌*◌, Bool, if◌then◌else◌, List, fold, nat_lt, Option, Some, None}
use Rattle.std.specs.List.{list_all}
use Rattle.std.specs.Str.{byte}
use Rattle.pq_term.specs.Numbers.{value_of}
use Rattle.pq_term.specs.Groups.{parts}
use Rattle.pq_term.specs.Forms.{is_mac, is_ipv4, is_ipv6_address}

-- the number whose digits to the base `weight` are spelled by groups of digits to another base, the most significant first
abbrev pub groups_value : ℕ → ℕ → List (List ℕ) → ℕ
groups_value weight base groups = fold (λ value group. value * weight + value_of base group) 0 groups

-- each group spells a digit to the base `weight`
abbrev pub spell_digits : ℕ → ℕ → List (List ℕ) → Bool
spell_digits weight base groups = list_all (λ group. nat_lt (value_of base group) weight) groups

-- the number of a MAC address, where the text is one
abbrev pub mac_of : List ℕ → Option ℕ
mac_of bs = if is_mac bs then Some (groups_value 256 16 (parts (byte ":") bs)) else None

-- the number of an IPv4 address, where the text is one
abbrev pub ipv4_of : List ℕ → Option ℕ
ipv4_of bs = if is_ipv4 bs then Some (groups_value 256 10 (parts (byte ".") bs)) else None

-- the number of an IPv6 address without the length of a prefix, where the text is one
abbrev pub ipv6_of : List ℕ → Option ℕ
ipv6_of bs = if is_ipv6_address bs then Some (groups_value 65536 16 (parts (byte ":") bs)) else None
