use Rattle.std.proofs.Common.{sym, subst}
use Rattle.pq_fields.specs.Writes.{FitsWidth}
use Rattle.pq_rewrite.proofs.Twice.{and_fits}
use Rattle.pq_rewrite.proofs.sequence.twice.Goals as goal

pub invariant_of-result : goal.invariant_of-result
invariant_of-result c =
    let first = c.first.invariant in
    let second = c.second.invariant in
    record {
      port = subst (FitsWidth 32) (sym c.and.ensures) (and_fits 32 _ _ first.port second.port);
      eth_src = subst (FitsWidth 48) (sym c.and-2.ensures) (and_fits 48 _ _ first.eth_src second.eth_src);
      eth_dst = subst (FitsWidth 48) (sym c.and-3.ensures) (and_fits 48 _ _ first.eth_dst second.eth_dst);
      ipv4_src = subst (FitsWidth 32) (sym c.and-4.ensures) (and_fits 32 _ _ first.ipv4_src second.ipv4_src);
      ipv4_dst = subst (FitsWidth 32) (sym c.and-5.ensures) (and_fits 32 _ _ first.ipv4_dst second.ipv4_dst);
      tcp_src = subst (FitsWidth 16) (sym c.and-6.ensures) (and_fits 16 _ _ first.tcp_src second.tcp_src);
      tcp_dst = subst (FitsWidth 16) (sym c.and-7.ensures) (and_fits 16 _ _ first.tcp_dst second.tcp_dst);
      udp_src = subst (FitsWidth 16) (sym c.and-8.ensures) (and_fits 16 _ _ first.udp_src second.udp_src);
      udp_dst = subst (FitsWidth 16) (sym c.and-9.ensures) (and_fits 16 _ _ first.udp_dst second.udp_dst);
    }
