use Rattle.std.proofs.Common.{rules, ◌≡◌, ◌-◌, ◌∙◌, ap, map, sym}
use Rattle.pq_query.specs.declared.query.Query.TheVariants.{Cat, rolls-Cat}
use Rattle.pq_query.specs.declared.query.Query.TheOpen.{Query-F}
use Rattle.pq_query.specs.declared.query.Query.TheFolds.{fold-roll-Query}
use Rattle.pq_query.specs.Query.{QueryTree, query_step, query_tree}
use Rattle.automaton_sizes.specs.Queries.{entering, in_turn, passing}
use Rattle.automaton_sizes.proofs.Operands.{one_more}
use Rattle.automaton_sizes.proofs.long_queries.waypoints.Goals as goal

pub loop-passed-preserved : goal.loop-passed-preserved
loop-passed-preserved c =
    let first = one_more _ _ _ _ _ c.in_ok-push.ensures.items c.loop-passed.invariant (c.in_atom.ensures ∙ ap entering c.at_switch.ensures) in
    let second = one_more _ _ _ _ _ c.in_ok-push-2.ensures.items first c.in_ok-any_packets.ensures in
    search (rules, second)

pub returns : goal.returns
returns c =
    let all = c.push-2.new.self in
    let is : query_tree (Cat all) ≡ in_turn (map query_tree all.items) = ap query_tree (sym (rolls-Cat all))
    ∙ fold-roll-Query QueryTree query_step (Query-F.Cat all) in
    let passed : map query_tree c.loop-passed.operands.items ≡ passing (c.args.last - 1) = search (rules, c.loop-passed.invariant) in
    let built = is ∙ ap in_turn (one_more _ _ _ _ _ c.in_ok-push-3.ensures.items passed (c.in_atom-2.ensures ∙ ap entering c.at_switch-2.ensures)) in
    search (rules, built)
