-- Numbers that have room, and trees that test only these.
use Rattle.std.proofs.Common.{ℕ, ◌-◌, ◌/◌, ◌^◌, ◌≤◌, List, sym, subst, inl, inr, arith}
use Rattle.pq_fields.specs.declared.field.Field.{Field}
use Rattle.pq_fields.specs.declared.field.Field.TheVariants.{Switch, Port, EthType, IpProto, EthSrc, EthDst, Ipv4Src, Ipv4Dst, TcpSrc}
use Rattle.pq_fields.specs.declared.field.Field.TheVariants.{TcpDst, UdpSrc, UdpDst, Ipv6Src, Ipv6Dst}
use Rattle.pq_fields.specs.Packet.{width_of}
use Rattle.pq_store.specs.declared.test.Test.{Test}
use Rattle.pq_store.specs.Tree.{Tree}
use Rattle.pq_store.specs.Tree.Tree.{Tip, Fork}
use Rattle.pq_store.specs.Room.{HasRoom, IsTestWithin, Within}

-- each field has room for a few numbers
pub roomy : (f : Field) → 9 ≤ 2 ^ width_of f / 2 - 1
roomy Switch = omega arith
roomy Port = omega arith
roomy EthType = omega arith
roomy IpProto = omega arith
roomy EthSrc = omega arith
roomy EthDst = omega arith
roomy Ipv4Src = omega arith
roomy Ipv4Dst = omega arith
roomy TcpSrc = omega arith
roomy TcpDst = omega arith
roomy UdpSrc = omega arith
roomy UdpDst = omega arith
roomy Ipv6Src = omega arith
roomy Ipv6Dst = omega arith

-- what has room has room for what follows from it
pub room_for : {P Q : (Field → List ℕ) → Type 0} → ((ns : Field → List ℕ) → P ns → Q ns) → HasRoom P → HasRoom Q
room_for follows has_room = record { numbers = has_room.numbers; few = has_room.few; within = follows has_room.numbers has_room.within }

module _ {L : Type 0} where
  -- a leaf tests no number
  pub tip_within : (ns : Field → List ℕ) (l : L) → Within ns (Tip l)
  tip_within ns l f v tested = absurd tested

  -- a tree tests these numbers where its root and its sides do
  pub fork_within : (ns : Field → List ℕ) (s : Test) (y n : Tree L) → IsTestWithin ns s → Within ns y → Within ns n → Within ns (Fork s y n)
  fork_within ns s y n here yes_in no_in f v (inl is) = subst (IsTestWithin ns) (sym is) here
  fork_within ns s y n here yes_in no_in f v (inr (inl in_yes)) = yes_in f v in_yes
  fork_within ns s y n here yes_in no_in f v (inr (inr in_no)) = no_in f v in_no
