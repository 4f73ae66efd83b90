-- Packets that differ in where they are alone.
use Rattle.std.specs.Prelude.{ℕ, zero, suc, ◌/◌, ◌%◌, List, [], ◌∷◌, ◌++◌}
use Rattle.pq_fields.specs.declared.field.Field.TheVariants.{Switch, Port}
use Rattle.pq_fields.specs.Packet.{Numbers, with_number, zero_packet}

-- the packet at a port of a switch, whose other numbers are 0
abbrev pub place : ℕ → ℕ → Numbers
place switch port = with_number Port port (with_number Switch switch zero_packet)

-- the packets at the first places, where each switch has this many ports
abbrev pub at_first_places : ℕ → ℕ → List Numbers
at_first_places ports zero = []
at_first_places ports (suc n) = at_first_places ports n ++ place (n / ports) (n % ports) ∷ []
