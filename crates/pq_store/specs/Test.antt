-- Tests of a packet, and their order.
use Rattle.std.specs.Prelude.{ℕ, ◌^◌, ◌<◌, ◌≡◌, ◌⊎◌, Bool, true, false, ◌==◌, ◌||◌}
use Rattle.pq_fields.specs.declared.field.Field.{Field}
use Rattle.pq_fields.specs.Packet.{Numbers, number_in, bit_in, width_of, rank, is_wide}
use Rattle.pq_fields.specs.Pred.{is_prefixed}
use Rattle.pq_store.specs.declared.test.Test.{Test}
use Rattle.pq_store.specs.declared.test.Test.TheVariants.{Equal, Bit}

-- the field is an IPv4 or an IPv6 address
abbrev pub is_address : Field → Bool
is_address f = is_prefixed f || is_wide f

-- whether the packet passes the test: it looks at the number alone, whether or not the packet has the field
abbrev pub passes : Test → Numbers → Bool
passes (Equal f v) x = number_in f x == v
passes (Bit f i) x = bit_in f i x

-- bits are tested of addresses alone, whole numbers of the other fields
abbrev pub IsLawful : Test → Type 0
IsLawful (Equal f v) = (is_address f ≡ false) × (v < 2 ^ width_of f)
IsLawful (Bit f i) = (is_address f ≡ true) × (i < width_of f)

abbrev pub field_of : Test → Field
field_of (Equal f v) = f
field_of (Bit f i) = f

-- what is tested of the field: a number, or a place
abbrev pub place_of : Test → ℕ
place_of (Equal f v) = v
place_of (Bit f i) = i

-- the order of tests: by field, then by number or place
abbrev pub Precedes : Test → Test → Type 0
Precedes s t = (rank (field_of s) < rank (field_of t)) ⊎ ((rank (field_of s) ≡ rank (field_of t)) × (place_of s < place_of t))
