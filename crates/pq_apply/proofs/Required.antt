-- The numbers in prerequisites among others.
use Rattle.std.proofs.Common.{ℕ, zero, suc, ◌∙◌, List, [], ◌∷◌, sym, subst, arith}
use Rattle.pq_fields.specs.declared.field.Field.{Field}
use Rattle.pq_fields.specs.declared.field.Field.TheVariants.{Switch, Port, EthType, IpProto, EthSrc, EthDst, Ipv4Src, Ipv4Dst, TcpSrc}
use Rattle.pq_fields.specs.declared.field.Field.TheVariants.{TcpDst, UdpSrc, UdpDst, Ipv6Src, Ipv6Dst}
use Rattle.pq_apply.specs.Predicates.{NeedsAmong}
use Rattle.pq_store.specs.Room.{IsAmong}

-- all of these numbers are among others
abbrev AreAmong : List ℕ → List ℕ → Type 0
AreAmong ns ms = (n : ℕ) → IsAmong n ns → IsAmong n ms

-- all of none are
none_among : (ms : List ℕ) → AreAmong [] ms
none_among ms n (k, x, within, at, is) = absurd (omega arith)

-- so are one that is, and others that are
more_among : (n : ℕ) (ns ms : List ℕ) → IsAmong n ms → AreAmong ns ms → AreAmong (n ∷ ns) ms
more_among n ns ms first later m (zero, x, within, at, is) = subst (λ k. IsAmong k ms) (at ∙ sym is) first
more_among n ns ms first later m (suc k, x, within, at, is) = later m (k, x, omega arith, at, is)

-- one that is
one_among : (n : ℕ) (ms : List ℕ) → IsAmong n ms → AreAmong (n ∷ []) ms
one_among n ms first = more_among n [] ms first (none_among ms)

-- fields without prerequisites need no numbers
pub port_needs : (ns : Field → List ℕ) → NeedsAmong ns Port
port_needs ns = record { types = none_among (ns EthType); protocols = none_among (ns IpProto) }

-- with the EtherTypes and protocols of IP the numbers in each field's prerequisites are among some
module _ (ns : Field → List ℕ) (ipv4 : IsAmong 0x0800 (ns EthType)) (ipv6 : IsAmong 0x86dd (ns EthType)) (tcp : IsAmong 6 (ns IpProto))
    (udp : IsAmong 17 (ns IpProto)) where
  -- of fields without prerequisites
  always : (f : Field) → AreAmong [] (ns f)
  always f = none_among (ns f)

  -- the EtherTypes of IP
  both_types : AreAmong (0x0800 ∷ 0x86dd ∷ []) (ns EthType)
  both_types = more_among 0x0800 (0x86dd ∷ []) (ns EthType) ipv4 (one_among 0x86dd (ns EthType) ipv6)

  pub needs_among : (f : Field) → NeedsAmong ns f
  needs_among Switch = record { types = always EthType; protocols = always IpProto }
  needs_among Port = record { types = always EthType; protocols = always IpProto }
  needs_among EthType = record { types = always EthType; protocols = always IpProto }
  needs_among IpProto = record { types = both_types; protocols = always IpProto }
  needs_among EthSrc = record { types = always EthType; protocols = always IpProto }
  needs_among EthDst = record { types = always EthType; protocols = always IpProto }
  needs_among Ipv4Src = record { types = one_among 0x0800 (ns EthType) ipv4; protocols = always IpProto }
  needs_among Ipv4Dst = record { types = one_among 0x0800 (ns EthType) ipv4; protocols = always IpProto }
  needs_among TcpSrc = record { types = both_types; protocols = one_among 6 (ns IpProto) tcp }
  needs_among TcpDst = record { types = both_types; protocols = one_among 6 (ns IpProto) tcp }
  needs_among UdpSrc = record { types = both_types; protocols = one_among 17 (ns IpProto) udp }
  needs_among UdpDst = record { types = both_types; protocols = one_among 17 (ns IpProto) udp }
  needs_among Ipv6Src = record { types = one_among 0x86dd (ns EthType) ipv6; protocols = always IpProto }
  needs_among Ipv6Dst = record { types = one_among 0x86dd (ns EthType) ipv6; protocols = always IpProto }
