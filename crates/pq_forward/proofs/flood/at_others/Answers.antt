use Rattle.std.proofs.Common.{subst, sym}
use Rattle.pq_rewrite.specs.Rewriting.{Ascend}
use Rattle.pq_forward.proofs.Ports.{listed_last, others_ascend}
use Rattle.pq_forward.proofs.flood.at_others.Goals as goal

pub of-requires : goal.of-requires
of-requires c =
    subst Ascend (sym (listed_last c.args.own c.args.ports.now c.loop-port.port-index c.loop-port.list.items c.loop-port-test.false c.loop-port.invariant))
    (others_ascend c.args.own c.args.ports.now c.requires.ascend)
