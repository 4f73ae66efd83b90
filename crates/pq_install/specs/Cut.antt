-- The units of an install's spelling, and where the unit begins that has a byte.
use Rattle.std.specs.Prelude.{ℕ, ◌+◌, ◌-◌, if◌then◌else◌, List, [], ◌∷◌, ◌++◌, length, map, nat_lt}
use Rattle.std.specs.Int.{Width, w16, w32, to_be_bytes}
use Rattle.std.specs.List.{flat_map}
use Rattle.pq_model.specs.declared.message.Message.{Message}
use Rattle.pq_model.specs.Topology.{Topology}
use Rattle.pq_model.specs.Spelling.{message_bytes}
use Rattle.pq_model.specs.Install.{Install, switch_bytes, link_bytes, name_bytes, row_bytes}

-- the count of values, and each of them
abbrev pub counted_units : {X : Type 0} → Width → (X → List ℕ) → List X → List (List ℕ)
counted_units w spell xs = to_be_bytes w (length xs) ∷ map spell xs

-- the count of the switches and each of them, and the links likewise
abbrev pub topology_units : Topology → List (List ℕ)
topology_units t = counted_units w16 switch_bytes t.switches ++ counted_units w16 link_bytes t.links

-- the count of the names of the queries and each of them, and the rows of the report likewise
abbrev pub report_units : Install → List (List ℕ)
report_units i = counted_units w16 name_bytes i.queries ++ counted_units w16 row_bytes i.report

-- the count of the messages to a switch, and each of them
abbrev pub list_units : List Message → List (List ℕ)
list_units ms = counted_units w32 message_bytes ms

-- the units of an install in order, after a magic that ends with this byte
abbrev pub install_units : ℕ → Install → List (List ℕ)
install_units version i = (0x50 ∷ 0x51 ∷ 0x49 ∷ version ∷ []) ∷ (topology_units i.topology ++ (report_units i ++ flat_map list_units i.messages))

-- the place at which the unit begins that has the byte at this place, or the end where there is none
abbrev pub unit_start : List (List ℕ) → ℕ → ℕ
unit_start [] n = 0
unit_start (u ∷ us) n = if nat_lt n (length u) then 0 else length u + unit_start us (n - length u)
