-- The numbers of a packet that has been written, and what tests say of it.
use Rattle.std.proofs.Common.{ℕ, ◌-◌, ◌/◌, ◌%◌, ◌^◌, ◌≡◌, ◌∙◌, Bool, true, false, None, Some, if◌then◌else◌, refl, sym, ap}
use Rattle.std.specs.Prelude.{◌==◌}
use Rattle.std.specs.Option.{unwrap_or}
use Rattle.pq_fields.specs.declared.field.Field.{Field}
use Rattle.pq_fields.specs.declared.field.Field.TheVariants.{Switch, Port, EthType, IpProto, EthSrc, EthDst, Ipv4Src, Ipv4Dst, TcpSrc}
use Rattle.pq_fields.specs.declared.field.Field.TheVariants.{TcpDst, UdpSrc, UdpDst, Ipv6Src, Ipv6Dst}
use Rattle.pq_fields.specs.Packet.{Numbers, has_field, is_ip, is_ipv6, number_in, width_of}
use Rattle.pq_fields.specs.Writes.{Written, number_after, on, written_in}
use Rattle.pq_store.specs.declared.test.Test.{Test}
use Rattle.pq_store.specs.declared.test.Test.TheVariants.{Equal, Bit}
use Rattle.pq_store.specs.Test.{field_of, passes}
use Rattle.pq_store.proofs.Ignored.{passes_number as passes_by}
use Rattle.pq_apply.specs.Restricting.{decides}
use Rattle.pq_apply.proofs.Choices.{one_of_same}

-- the packet keeps its fields when it is written
pub has_on : (f : Field) (w : Written) (x : Numbers) → has_field f (on w x) ≡ has_field f x
has_on Switch w x = refl
has_on Port w x = refl
has_on EthType w x = refl
has_on IpProto w x = refl
has_on EthSrc w x = refl
has_on EthDst w x = refl
has_on Ipv4Src w x = refl
has_on Ipv4Dst w x = refl
has_on TcpSrc w x = refl
has_on TcpDst w x = refl
has_on UdpSrc w x = refl
has_on UdpDst w x = refl
has_on Ipv6Src w x = refl
has_on Ipv6Dst w x = refl

-- a field has the number after the writes
pub number_on : (f : Field) (w : Written) (x : Numbers) → number_in f (on w x) ≡ number_after f w x
number_on Switch w x = refl
number_on Port w x = refl
number_on EthType w x = refl
number_on IpProto w x = one_of_same (is_ip x) x.ip_proto
number_on EthSrc w x = refl
number_on EthDst w x = refl
number_on Ipv4Src w x = refl
number_on Ipv4Dst w x = refl
number_on TcpSrc w x = refl
number_on TcpDst w x = refl
number_on UdpSrc w x = refl
number_on UdpDst w x = refl
number_on Ipv6Src w x = one_of_same (is_ipv6 x) x.ipv6_src
number_on Ipv6Dst w x = one_of_same (is_ipv6 x) x.ipv6_dst

-- and as the number decides it
passes_number : (t : Test) (x : Numbers) (n : ℕ) → number_in (field_of t) x ≡ n → passes t x ≡ decides t n
passes_number (Equal f v) x n is = ap (λ m. m == v) is
passes_number (Bit f i) x n is = ap (λ m. m / 2 ^ (width_of f - 1 - i) % 2 == 1) is

-- where the test's field isn't written, the test answers as before
pub passes_unwritten : (t : Test) (w : Written) (x : Numbers) → written_in (field_of t) w ≡ None → passes t (on w x) ≡ passes t x
passes_unwritten t w x none =
    let f = field_of t in
    passes_by t (on w x) x
    (number_on f w x ∙ (ap (λ o. if has_field f x then unwrap_or o (number_in f x) else number_in f x) none
    ∙ sym (one_of_same (has_field f x) (number_in f x))))

-- where it is written, the number decides the test of packets that have the field
pub passes_written : (t : Test) (w : Written) (n : ℕ) (x : Numbers) → written_in (field_of t) w ≡ Some n
    → passes t (on w x) ≡ (if has_field (field_of t) x then decides t n else passes t x)
passes_written t w n x some =
    let f = field_of t in
    by (has_field f x) (number_on f w x ∙ ap (λ o. if has_field f x then unwrap_or o (number_in f x) else number_in f x) some)
  where
    by : (b : Bool) → number_in (field_of t) (on w x) ≡ (if b then n else number_in (field_of t) x)
        → passes t (on w x) ≡ (if b then decides t n else passes t x)
    by true is = passes_number t (on w x) n is
    by false is = passes_by t (on w x) x is
