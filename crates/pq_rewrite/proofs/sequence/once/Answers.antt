use Rattle.std.proofs.Common.{sym, subst}
use Rattle.pq_fields.specs.Writes.{FitsWidth}
use Rattle.pq_rewrite.proofs.Twice.{xor_fits}
use Rattle.pq_rewrite.proofs.sequence.once.Goals as goal

pub invariant_of-result : goal.invariant_of-result
invariant_of-result c =
    let first = c.first.invariant in
    let second = c.second.invariant in
    record {
      port = subst (FitsWidth 32) (sym c.xor.ensures) (xor_fits 32 _ _ first.port second.port);
      eth_src = subst (FitsWidth 48) (sym c.xor-2.ensures) (xor_fits 48 _ _ first.eth_src second.eth_src);
      eth_dst = subst (FitsWidth 48) (sym c.xor-3.ensures) (xor_fits 48 _ _ first.eth_dst second.eth_dst);
      ipv4_src = subst (FitsWidth 32) (sym c.xor-4.ensures) (xor_fits 32 _ _ first.ipv4_src second.ipv4_src);
      ipv4_dst = subst (FitsWidth 32) (sym c.xor-5.ensures) (xor_fits 32 _ _ first.ipv4_dst second.ipv4_dst);
      tcp_src = subst (FitsWidth 16) (sym c.xor-6.ensures) (xor_fits 16 _ _ first.tcp_src second.tcp_src);
      tcp_dst = subst (FitsWidth 16) (sym c.xor-7.ensures) (xor_fits 16 _ _ first.tcp_dst second.tcp_dst);
      udp_src = subst (FitsWidth 16) (sym c.xor-8.ensures) (xor_fits 16 _ _ first.udp_src second.udp_src);
      udp_dst = subst (FitsWidth 16) (sym c.xor-9.ensures) (xor_fits 16 _ _ first.udp_dst second.udp_dst);
    }
