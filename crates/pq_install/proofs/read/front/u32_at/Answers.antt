use Rattle.std.proofs.Common.{arith}
use Rattle.pq_install.proofs.BigEndian.{u32_at_front}
use Rattle.pq_install.proofs.read.front.u32_at.Goals as goal

pub returns : goal.returns
returns c =
    let cut = c.in_ok-front.ensures.cases in
    u32_at_front c.args.bytes.now _ _ _ (λ i. omega (arith, c.type_inv.bytes i)) cut.0 cut.1 (omega (arith, cut.2)) c.from_be_bytes.ensures
