use Rattle.std.proofs.Common.{rules, inr, arith}
use Rattle.std.proofs.lemmas.Option.{slice_get_within}
use Rattle.pq_layout.specs.Actions.{tag_word}
use Rattle.pq_layout.specs.Messages.{is_without}
use Rattle.pq_rules.specs.Tables.{IsLeavingId}
use Rattle.pq_rules.proofs.GatherLemmas.{element, root_pushed}
use Rattle.pq_rules.proofs.roots.leaving_roots.Goals as goal
use Rattle.pq_rules.proofs.roots.leaving_roots.Goals.{After-id-item}

-- the tree at the id
tree : (c : After-id-item) → IsLeavingId c.args.store.now c.id-item.result
tree c = element (IsLeavingId c.args.store.now) c.args.ids.now c.loop-id.id-index c.id-item.result c.requires c.loop-id-test.true c.id-item.is

pub is_without-blank-requires : goal.is_without-blank-requires
is_without-blank-requires c = let it = tree (goal.at.is_without-blank-requires c).After-id-item in
    slice_get_within c.args.store.now c.id-item.result.1 it.0 it.1

pub overflow_add-id : goal.overflow_add-id
overflow_add-id c = let it = tree (goal.at.overflow_add-id c).After-id-item in let small = it.2.vlan in search (rules, arith, small)

pub loop-id-preserved : goal.loop-id-preserved
loop-id-preserved c =
    let it = tree (goal.at.loop-id-preserved c).After-id-item in
    root_pushed is_without c.args.store.now (λ p. (tag_word p.0, p.1)) c.args.ids.now c.loop-id.id-index c.id-item.result c.loop-id.roots.items
    c.push_root.new.roots.items it.0 c.is_without-blank.result
    c.loop-id-test.true c.id-item.is it.1 (inr it.2.vlan) it.2.matchable c.is_without-blank.ensures c.in_ok-push_root.ensures c.loop-id.invariant
