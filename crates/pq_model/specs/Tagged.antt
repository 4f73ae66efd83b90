-- A packet with its VLAN header, as a value.
use Rattle.std.specs.Prelude.{ℕ, ◌+◌, List, [], ◌∷◌, ◌++◌}
use Rattle.std.specs.declared.option.Option.{Option}
use Rattle.std.specs.declared.option.Option.TheVariants.{None, Some}
use Rattle.pq_fields.specs.Packet.{Numbers, numbers}

-- the VLAN number, where there is a header
pub record TaggedPacket : Type 0 where
  pub packet : Numbers
  pub vlan : Option ℕ

-- no header is before every number
abbrev pub vlan_key : Option ℕ → ℕ
vlan_key None = 0
vlan_key (Some t) = t + 1

-- tagged packets are in packet order and then by VLAN number
abbrev pub tagged_numbers : TaggedPacket → List ℕ
tagged_numbers x = numbers x.packet ++ vlan_key x.vlan ∷ []
