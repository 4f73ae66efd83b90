use Rattle.std.proofs.Common.{refl}
use Rattle.pq_fields.proofs.Places.{place_compares, then_equal, same_writes}
use Rattle.pq_fields.proofs.writes.writes_are_ordered_by_numbers.Goals as goal

-- src/writes.rt:151:1
pub returns-clause-compares : goal.returns-clause-compares
returns-clause-compares c = λ v w. rw (
  place_compares v.port w.port,
  place_compares v.eth_src w.eth_src,
  place_compares v.eth_dst w.eth_dst,
  place_compares v.ipv4_src w.ipv4_src,
  place_compares v.ipv4_dst w.ipv4_dst,
  place_compares v.tcp_src w.tcp_src,
  place_compares v.tcp_dst w.tcp_dst,
  place_compares v.udp_src w.udp_src,
  place_compares v.udp_dst w.udp_dst,
  then_equal,
) refl

-- src/writes.rt:151:1
pub returns-clause-equals : goal.returns-clause-equals
returns-clause-equals c = same_writes
