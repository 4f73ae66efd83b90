-- How many numbers may be stated for a field.
use Rattle.std.specs.Prelude.{ℕ, List, [], ◌∷◌, map, length, nat_lt, if◌then◌else◌}
use Rattle.std.specs.declared.option.Option.{Option}
use Rattle.std.specs.declared.option.Option.TheVariants.{None, Some}
use Rattle.std.specs.List.{filter}
use Rattle.pq_fields.specs.declared.field.Field.{Field}
use Rattle.pq_fields.specs.declared.field.Field.TheVariants.{Port, EthType, IpProto, EthSrc, EthDst, TcpSrc, TcpDst, UdpSrc, UdpDst}
use Rattle.pq_query.specs.Labels.{ascending}
use Rattle.pq_query.specs.Resolved.{is_field}
use Rattle.pq_values.specs.Stated.{Stated}

-- the numbers that are stated for the field
abbrev pub numbers_for : Field → List Stated → List ℕ
numbers_for f ss = map (λ s. s.1) (filter (λ s. is_field f s.0) ss)

-- how many different numbers are stated for the field
abbrev pub count_for : Field → List Stated → ℕ
count_for f ss = length (ascending (numbers_for f ss))

-- a field, and how many numbers may be stated for it
abbrev pub Limit : Type 0
Limit = Field × ℕ

-- the limits, in field order; switches and addresses have none
abbrev pub limits : List Limit
limits =
    (Port, 512) ∷ (EthType, 256) ∷ (IpProto, 120) ∷ (EthSrc, 1024) ∷ (EthDst, 1024) ∷ (TcpSrc, 512) ∷ (TcpDst, 512) ∷ (UdpSrc, 512) ∷ (UdpDst, 512) ∷ []

-- the first field that is above its limit, with its number of numbers, where the numbers of fields are counted so
abbrev pub first_above : (Field → ℕ) → List Limit → Option (Field × ℕ)
first_above count [] = None
first_above count (l ∷ ls) = if nat_lt l.1 (count l.0) then Some (l.0, count l.0) else first_above count ls

-- the first field for which too many different numbers are stated, with how many these are
abbrev pub first_full : List Stated → Option (Field × ℕ)
first_full ss = first_above (λ f. count_for f ss) limits
