use Rattle.std.proofs.Common.{ap, ◌∙◌, if◌then◌else◌, [], ◌∷◌, ◌++◌}
use Rattle.std.proofs.lemmas.Option.{slice_get_within}
use Rattle.pq_layout.specs.Actions.{key_word}
use Rattle.pq_layout.specs.Messages.{is_nothing}
use Rattle.pq_rules.specs.Tables.{IsArrivingId}
use Rattle.pq_rules.proofs.GatherLemmas.{element, root_pushed}
use Rattle.pq_rules.proofs.roots.arriving_roots.Goals as goal
use Rattle.pq_rules.proofs.roots.arriving_roots.Goals.{After-id-item}

-- the tree at the id
tree : (c : After-id-item) → IsArrivingId c.args.store.now c.id-item.result
tree c = element (IsArrivingId c.args.store.now) c.args.ids.now c.loop-id.id-index c.id-item.result c.requires c.loop-id-test.true c.id-item.is

pub is_nothing-blank-requires : goal.is_nothing-blank-requires
is_nothing-blank-requires c = let it = tree (goal.at.is_nothing-blank-requires c).After-id-item in
    slice_get_within c.args.store.now c.id-item.result.1 it.0 it.1

pub key_word-requires : goal.key_word-requires
key_word-requires c = (tree (goal.at.key_word-requires c).After-id-item).2.vlan

pub loop-id-preserved : goal.loop-id-preserved
loop-id-preserved c =
    let it = tree (goal.at.loop-id-preserved c).After-id-item in
    root_pushed is_nothing c.args.store.now (λ p. (key_word p.0, p.1)) c.args.ids.now c.loop-id.id-index c.id-item.result c.loop-id.roots.items
    c.push_root.new.roots.items it.0 c.is_nothing-blank.result
    c.loop-id-test.true c.id-item.is it.1 (it.2.vlan) it.2.matchable c.is_nothing-blank.ensures
    (c.in_ok-push_root.ensures
    ∙ ap (λ w. if c.is_nothing-blank.result then c.loop-id.roots.items else c.loop-id.roots.items ++ (w, c.id-item.result.1) ∷ [])
    c.key_word.ensures) c.loop-id.invariant
