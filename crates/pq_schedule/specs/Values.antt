-- How the numbers of fields are written: in schedules, and of packets that are printed.
use Rattle.std.specs.Prelude.{ℕ, ◌-◌, ◌/◌, ◌%◌, ◌^◌, Bool, false, not, ◌&&◌, ◌||◌, if◌then◌else◌, List, [], ◌∷◌, map, length, ◌==◌, codes}
use Rattle.std.specs.Prelude.{decimal, Option, None}
use Rattle.std.specs.Fmt.{digits, digit_glyph}
use Rattle.std.specs.Char.{is_ascii_uppercase}
use Rattle.std.specs.List.{list_all, list_any, join_by}
use Rattle.std.specs.Str.{byte}
use Rattle.pq_term.specs.Numbers.{decimal_of}
use Rattle.pq_term.specs.Groups.{parts}
use Rattle.pq_term.specs.Addresses.{mac_of, ipv4_of, ipv6_of}
use Rattle.pq_fields.specs.declared.field.Field.{Field}
use Rattle.pq_fields.specs.declared.field.Field.TheVariants.{Switch, Port, EthType, IpProto, EthSrc, EthDst, Ipv4Src, Ipv4Dst, TcpSrc}
use Rattle.pq_fields.specs.declared.field.Field.TheVariants.{TcpDst, UdpSrc, UdpDst, Ipv6Src, Ipv6Dst}
use Rattle.pq_fields.specs.Packet.{width_of}

-- how a number is written: by decimal digits without leading zeros, or as an address
pub data Form : Type 0 where
  Decimal : Form
  Mac : Form
  Ipv4 : Form
  Ipv6 : Form

-- how a field's numbers are written
abbrev pub form_of : Field → Form
form_of Switch = Decimal
form_of Port = Decimal
form_of EthType = Decimal
form_of IpProto = Decimal
form_of EthSrc = Mac
form_of EthDst = Mac
form_of Ipv4Src = Ipv4
form_of Ipv4Dst = Ipv4
form_of TcpSrc = Decimal
form_of TcpDst = Decimal
form_of UdpSrc = Decimal
form_of UdpDst = Decimal
form_of Ipv6Src = Ipv6
form_of Ipv6Dst = Ipv6

-- Reading.

-- no letter is upper case, and only `0` itself begins with a zero
abbrev pub is_shortest : List ℕ → Bool
is_shortest [] = false
is_shortest (b ∷ bs) = not (list_any is_ascii_uppercase (b ∷ bs)) && (not (b == byte "0") || length bs == 0)

-- the number of an IPv6 address whose groups are lower-case digits without leading zeros
abbrev pub short_ipv6_of : List ℕ → Option ℕ
short_ipv6_of text = if list_all is_shortest (parts (byte ":") text) then ipv6_of text else None

-- the number that a text states in a form; a decimal number has at most this many bits
abbrev pub number_from : Form → ℕ → List ℕ → Option ℕ
number_from Decimal bits text = decimal_of (2 ^ bits - 1) text
number_from Mac bits text = mac_of text
number_from Ipv4 bits text = ipv4_of text
number_from Ipv6 bits text = short_ipv6_of text

-- the number that a text states for a field
abbrev pub field_number : Field → List ℕ → Option ℕ
field_number f text = number_from (form_of f) (width_of f) text

-- Printing.

-- two lower-case hexadecimal digits
abbrev pub two_digits : ℕ → List ℕ
two_digits n = digit_glyph false (n / 16) ∷ digit_glyph false (n % 16) ∷ []

-- this many bits of a number at each of these places, counted from the lowest bit
abbrev pub bits_at : ℕ → List ℕ → ℕ → List ℕ
bits_at bits places n = map (λ place. n / 2 ^ place % 2 ^ bits) places

-- the text of a number in a form
abbrev pub text_in : Form → ℕ → List ℕ
text_in Decimal n = decimal n
text_in Mac n = join_by two_digits (codes ":") (bits_at 8 (40 ∷ 32 ∷ 24 ∷ 16 ∷ 8 ∷ 0 ∷ []) n)
text_in Ipv4 n = join_by decimal (codes ".") (bits_at 8 (24 ∷ 16 ∷ 8 ∷ 0 ∷ []) n)
text_in Ipv6 n = join_by (digits 16 false) (codes ":") (bits_at 16 (112 ∷ 96 ∷ 80 ∷ 64 ∷ 48 ∷ 32 ∷ 16 ∷ 0 ∷ []) n)
