use Rattle.std.proofs.Common.{ap, inl, inr, arith}
use Rattle.pq_fields.specs.Packet.{rank}
use Rattle.pq_apply.specs.Atoms.{present_tree}
use Rattle.pq_apply.proofs.Gates.{inner_lower}
use Rattle.pq_apply.proofs.prerequisites.where_present.Goals as goal

pub where_ip-requires : goal.where_ip-requires
where_ip-requires c = record {
  inner = inner_lower c.args.store.now (rank c.args.field) 3 1 2 c.args.inner (omega (arith, ap rank c.in-IpProto.is)) (omega arith) c.requires.inner;
}

pub where_type-requires-clause-inner : goal.where_type-requires-clause-inner
where_type-requires-clause-inner c =
    inner_lower c.args.store.now (rank c.args.field) 3 1 2 c.args.inner
    (elim c.in-Ipv4Src.is [ inl e ↦ omega (arith, ap rank e) | inr e ↦ omega (arith, ap rank e) ]) (omega arith) c.requires.inner

pub where_type-requires-in-Ipv6Src-clause-inner : goal.where_type-requires-in-Ipv6Src-clause-inner
where_type-requires-in-Ipv6Src-clause-inner c =
    inner_lower c.args.store.now (rank c.args.field) 3 1 2 c.args.inner
    (elim c.in-Ipv6Src.is [ inl e ↦ omega (arith, ap rank e) | inr e ↦ omega (arith, ap rank e) ]) (omega arith) c.requires.inner

pub where_protocol-requires-clause-inner : goal.where_protocol-requires-clause-inner
where_protocol-requires-clause-inner c =
    inner_lower c.args.store.now (rank c.args.field) 4 1 1 c.args.inner
    (elim c.in-TcpSrc.is [ inl e ↦ omega (arith, ap rank e) | inr e ↦ omega (arith, ap rank e) ]) (omega arith) c.requires.inner

pub where_protocol-requires-in-UdpSrc-clause-inner : goal.where_protocol-requires-in-UdpSrc-clause-inner
where_protocol-requires-in-UdpSrc-clause-inner c =
    inner_lower c.args.store.now (rank c.args.field) 4 1 1 c.args.inner
    (elim c.in-UdpSrc.is [ inl e ↦ omega (arith, ap rank e) | inr e ↦ omega (arith, ap rank e) ]) (omega arith) c.requires.inner

pub returns-in-Switch-clause-makes : goal.returns-in-Switch-clause-makes
unfolding present_tree
returns-in-Switch-clause-makes c = elim c.in-Switch.is [
  | inl e ↦ rw e (λ t is. is)
  | inr later ↦ elim later [
    | inl e ↦ rw e (λ t is. is)
    | inr later ↦ elim later [
      | inl e ↦ rw e (λ t is. is)
      | inr later ↦ elim later [ inl e ↦ rw e (λ t is. is) | inr e ↦ rw e (λ t is. is) ]
    ]
  ]
]

pub returns-in-IpProto-clause-makes : goal.returns-in-IpProto-clause-makes
unfolding present_tree
returns-in-IpProto-clause-makes c = rw c.in-IpProto.is c.where_ip.ensures.makes

pub returns-in-Ipv4Src-clause-makes : goal.returns-in-Ipv4Src-clause-makes
unfolding present_tree
returns-in-Ipv4Src-clause-makes c = elim c.in-Ipv4Src.is [ inl e ↦ rw e c.where_type.ensures.makes | inr e ↦ rw e c.where_type.ensures.makes ]

pub returns-in-TcpSrc-clause-makes : goal.returns-in-TcpSrc-clause-makes
unfolding present_tree
returns-in-TcpSrc-clause-makes c = elim c.in-TcpSrc.is [ inl e ↦ rw e c.where_protocol.ensures.makes | inr e ↦ rw e c.where_protocol.ensures.makes ]

pub returns-in-UdpSrc-clause-makes : goal.returns-in-UdpSrc-clause-makes
unfolding present_tree
returns-in-UdpSrc-clause-makes c = elim c.in-UdpSrc.is [
  | inl e ↦ rw e c.where_protocol-in-UdpSrc.ensures.makes
  | inr e ↦ rw e c.where_protocol-in-UdpSrc.ensures.makes
]

pub returns-in-Ipv6Src-clause-makes : goal.returns-in-Ipv6Src-clause-makes
unfolding present_tree
returns-in-Ipv6Src-clause-makes c = elim c.in-Ipv6Src.is [
  | inl e ↦ rw e c.where_type-in-Ipv6Src.ensures.makes
  | inr e ↦ rw e c.where_type-in-Ipv6Src.ensures.makes
]
