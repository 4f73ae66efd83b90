use Rattle.std.proofs.Common.{rules, ◌≡◌, ◌∙◌, ap, map, sym}
use Rattle.pq_query.specs.declared.query.Query.TheVariants.{Cat, rolls-Cat}
use Rattle.pq_query.specs.declared.query.Query.TheOpen.{Query-F}
use Rattle.pq_query.specs.declared.query.Query.TheFolds.{fold-roll-Query}
use Rattle.pq_query.specs.Query.{QueryTree, query_step, query_tree}
use Rattle.automaton_sizes.specs.Queries.{anything, entering, in_turn, times}
use Rattle.automaton_sizes.proofs.Operands.{one_more}
use Rattle.automaton_sizes.proofs.long_queries.chain.Goals as goal

pub returns : goal.returns
returns c =
    let all = c.push-2.new.self in
    let is : query_tree (Cat all) ≡ in_turn (map query_tree all.items) = ap query_tree (sym (rolls-Cat all))
    ∙ fold-roll-Query QueryTree query_step (Query-F.Cat all) in
    let atoms : map query_tree c.loop.operands.items ≡ times c.args.count (entering anything) = search (rules, c.loop.invariant.0) in
    is ∙ ap in_turn (one_more _ _ _ _ _ c.in_ok-push-2.ensures.items atoms (ap query_tree c.loop.invariant.1))
