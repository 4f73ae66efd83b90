-- The trees of single tests of a field, and their place below the tests of its prerequisites.
use Rattle.std.specs.Prelude.{ℕ, zero, suc, ◌-◌, ◌/◌, ◌%◌, ◌^◌, ◌<◌, ◌≤◌, ◌≡◌, Bool, true, false, List, Some, slice_get, length, ◌==◌, if◌then◌else◌}
use Rattle.pq_fields.specs.declared.field.Field.{Field}
use Rattle.pq_fields.specs.declared.field.Field.TheVariants.{Switch, Port, EthType, IpProto, EthSrc, EthDst, Ipv4Src, Ipv4Dst, TcpSrc}
use Rattle.pq_fields.specs.declared.field.Field.TheVariants.{TcpDst, UdpSrc, UdpDst, Ipv6Src, Ipv6Dst}
use Rattle.pq_fields.specs.Packet.{width_of, rank}
use Rattle.pq_store.specs.declared.test.Test.{Test}
use Rattle.pq_store.specs.declared.test.Test.TheVariants.{Equal, Bit}
use Rattle.pq_store.specs.Test.{Precedes, field_of, is_address}
use Rattle.pq_store.specs.Tree.{Tree}
use Rattle.pq_store.specs.Tree.Tree.{Tip, Fork}
use Rattle.pq_store.specs.Diagram.{IsBefore, Skips, most}

-- the bit of a number of the field at a place, 0 being the highest
abbrev pub bit_at : Field → ℕ → ℕ → Bool
bit_at f n place = n / 2 ^ (width_of f - 1 - place) % 2 == 1

-- the bit at the place is this one, and the rest holds
abbrev pub bit_fork : Bool → Field → ℕ → Tree Bool → Tree Bool
bit_fork true f place t = Fork (Bit f place) t (Tip false)
bit_fork false f place t = Fork (Bit f place) (Tip false) t

-- this many bits from a place on are those of the number
unfoldable pub bits_tree : Field → ℕ → ℕ → ℕ → Tree Bool
bits_tree f n place zero = Tip true
bits_tree f n place (suc more) = bit_fork (bit_at f n place) f place (bits_tree f n (suc place) more)

-- the field's number is this one
unfoldable pub number_tree : Field → ℕ → Tree Bool
number_tree f n = if is_address f then bits_tree f n 0 (width_of f) else Fork (Equal f n) (Tip true) (Tip false)

-- the IP protocol is this one, and the rest holds
abbrev pub protocol_tree : ℕ → Tree Bool → Tree Bool
protocol_tree n t = Fork (Equal IpProto n) t (Tip false)

-- the EtherType is this one, and the rest holds
abbrev pub type_tree : ℕ → Tree Bool → Tree Bool
type_tree n t = Fork (Equal EthType n) t (Tip false)

-- the EtherType is that of IPv4 or of IPv6, and the rest holds
abbrev pub ip_tree : Tree Bool → Tree Bool
ip_tree t = Fork (Equal EthType 0x0800) t (type_tree 0x86dd t)

-- the packet has the field, and the rest holds
unfoldable pub present_tree : Field → Tree Bool → Tree Bool
present_tree Switch t = t
present_tree Port t = t
present_tree EthType t = t
present_tree IpProto t = ip_tree t
present_tree EthSrc t = t
present_tree EthDst t = t
present_tree Ipv4Src t = type_tree 0x0800 t
present_tree Ipv4Dst t = type_tree 0x0800 t
present_tree TcpSrc t = ip_tree (protocol_tree 6 t)
present_tree TcpDst t = ip_tree (protocol_tree 6 t)
present_tree UdpSrc t = ip_tree (protocol_tree 17 t)
present_tree UdpDst t = ip_tree (protocol_tree 17 t)
present_tree Ipv6Src t = type_tree 0x86dd t
present_tree Ipv6Dst t = type_tree 0x86dd t

-- tests of bits of the field from a place on
pub record IsOfBits (f : Field) (place : ℕ) (t : Tree Bool) : Type 0 where
  pub first : (s : Test) → Precedes s (Bit f place) → IsBefore s t
  pub skips : (g : Field) → Skips g t
  pub none : (g : Field) → most g t ≡ 0
  pub some : t ≡ Tip false → ⊥

-- tests of fields from a rank on, at most this many of a field's numbers on a path
pub record IsInner (from many : ℕ) (t : Tree Bool) : Type 0 where
  pub first : (s : Test) → rank (field_of s) < from → IsBefore s t
  pub skips : (g : Field) → rank g < from → Skips g t
  pub few : (g : Field) → most g t ≤ many
  pub some : t ≡ Tip false → ⊥

-- the tree at a place is of tests of a field's bits
abbrev pub AreBitsAt : List (Tree Bool) → Field → ℕ → ℕ → Type 0
AreBitsAt ts f place i = (i < length ts) × ((t : Tree Bool) → slice_get ts i ≡ Some t → IsOfBits f place t)

-- the tree at a place is of tests of later fields
abbrev pub IsInnerAt : List (Tree Bool) → ℕ → ℕ → ℕ → Type 0
IsInnerAt ts from many i = (i < length ts) × ((t : Tree Bool) → slice_get ts i ≡ Some t → IsInner from many t)

-- a new place has what is made of the tree of an old one
abbrev pub MakesAt : (Tree Bool → Tree Bool) → List (Tree Bool) → ℕ → List (Tree Bool) → ℕ → Type 0
MakesAt made old i new k = (t : Tree Bool) → slice_get old i ≡ Some t → slice_get new k ≡ Some (made t)
