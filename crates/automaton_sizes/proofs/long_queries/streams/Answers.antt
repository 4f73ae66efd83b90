use Rattle.std.proofs.Common.{rules}
use Rattle.automaton_sizes.proofs.Operands.{one_more}
use Rattle.automaton_sizes.proofs.long_queries.streams.Goals as goal

pub loop-preserved : goal.loop-preserved
loop-preserved c =
    let more = one_more c.loop.operands.items c.push.new.self.items c.in_ok-any_packets.field-0 _ _ c.in_ok-push.ensures.items
    c.loop.invariant c.in_ok-any_packets.ensures in
    search (rules, more)
