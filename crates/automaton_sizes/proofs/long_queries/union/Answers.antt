use Rattle.std.proofs.Common.{rules, ◌≡◌}
use Rattle.automaton_sizes.proofs.Operands.{one_more}
use Rattle.automaton_sizes.proofs.long_queries.union.Goals as goal

pub loop-chain-preserved : goal.loop-chain-preserved
loop-chain-preserved c =
    let more = one_more c.loop-chain.operands.items c.push.new.self.items c.in_ok-varied_chain.field-0 _ _ c.in_ok-push.ensures.items
    c.loop-chain.invariant c.in_ok-varied_chain.ensures in
    search (rules, more)
