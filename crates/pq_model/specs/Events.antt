-- The atomic steps of a network, and the premise on the packets that enter it.
use Rattle.std.specs.Prelude.{◌^◌, ◌<◌, List, [], ◌∷◌, IfSome}
use Rattle.pq_fields.specs.Packet.{Fit}
use Rattle.pq_model.specs.Tagged.{TaggedPacket}
use Rattle.pq_model.specs.declared.event.Event.{Event}
use Rattle.pq_model.specs.declared.event.Event.TheVariants.{Inject, Hop, Lose}

-- the numbers are a packet's, and the VLAN number has 12 bits
pub record IsTagged (x : TaggedPacket) : Type 0 where
  pub packet : Fit x.packet
  pub vlan : IfSome x.vlan (λ t. t < 2 ^ 12)

abbrev pub IsEvent : Event → Type 0
IsEvent (Inject x) = IsTagged x
IsEvent (Hop k) = Unit {0}
IsEvent (Lose k) = Unit {0}

-- a list of events, each of which may happen: whatever is injected keeps the widths of its fields
abbrev pub IsSchedule : List Event → Type 0
IsSchedule [] = Unit {0}
IsSchedule (e ∷ es) = IsEvent e × IsSchedule es
