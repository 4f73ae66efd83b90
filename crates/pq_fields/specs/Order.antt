-- The orders of packets and of writes that `sort` and `<` use, by names for clauses.
use Rattle.std.specs.Prelude.{Bool}
use Rattle.std.specs.declared.cmp.Ordering.{Ordering}
use Rattle.pq_fields.specs.contracts.packet.PacketOrd.TheImpl as order
use Rattle.pq_fields.specs.contracts.packet.PacketPartialEq.TheImpl as equality
use Rattle.pq_fields.specs.contracts.writes.WritesOrd.TheImpl as writes_order
use Rattle.pq_fields.specs.contracts.writes.WritesPartialEq.TheImpl as writes_equality
use Rattle.pq_fields.specs.Packet.{Numbers}
use Rattle.pq_fields.specs.Writes.{Written}

-- how two packets compare, as `cmp` answers
abbrev pub packet_cmp : Numbers → Numbers → Ordering
packet_cmp = (order.ghosts).cmp

-- whether two packets are equal, as `==` answers
abbrev pub packet_eq : Numbers → Numbers → Bool
packet_eq = (equality.ghosts).eq

-- how two writes compare, as `cmp` answers
abbrev pub writes_cmp : Written → Written → Ordering
writes_cmp = (writes_order.ghosts).cmp

-- whether two writes are equal, as `==` answers
abbrev pub writes_eq : Written → Written → Bool
writes_eq = (writes_equality.ghosts).eq
