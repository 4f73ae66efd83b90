use Rattle.std.proofs.Common.{◌∙◌, subst, sym}
use Rattle.std.proofs.lemmas.List.{drop_all}
use Rattle.std.proofs.lemmas.Option.{slice_get_within, same_Some}
use Rattle.pq_layout.specs.Sound.{IsMatchable}
use Rattle.pq_rules.proofs.FoundLemmas.{Completes, all_complete, none_completes, one_completes, root_at}
use Rattle.pq_rules.proofs.entries.table_entries.Goals as goal

pub loop-root-init : goal.loop-root-init
loop-root-init g c = subst (λ es. Completes c.args.store.now c.args.roots.now c.args.roots.now es) (sym c.in_ok-found.ensures.items)
    (none_completes c.args.store.now c.args.roots.now)

pub push_tree-requires-clause-node : goal.push_tree-requires-clause-node
push_tree-requires-clause-node g c =
    let root = root_at c.args.store.now c.args.roots.now c.loop-root.root-index c.root-item.result c.requires c.loop-root-test.true c.root-item.is in
    slice_get_within c.args.store.now c.root-item.result.1 root.1.0 root.1.1

pub push_tree-requires-clause-matchable : goal.push_tree-requires-clause-matchable
push_tree-requires-clause-matchable g c = λ t is.
    let root = root_at c.args.store.now c.args.roots.now c.loop-root.root-index c.root-item.result c.requires c.loop-root-test.true c.root-item.is in
    subst IsMatchable (same_Some root.1.0 t (sym root.1.1 ∙ is)) root.1.2

pub loop-root-preserved : goal.loop-root-preserved
loop-root-preserved g c =
    let root = root_at c.args.store.now c.args.roots.now c.loop-root.root-index c.root-item.result c.requires c.loop-root-test.true c.root-item.is in
    one_completes c.args.store.now c.args.roots.now c.loop-root.root-index c.root-item.result c.loop-root.found.items
    c.push_tree.new.found.items c.loop-root-test.true c.root-item.is
    root.1.0 root.1.1 (c.in_ok-push_tree.ensures root.1.0 root.1.1) c.loop-root.invariant

pub returns : goal.returns
returns g c = all_complete c.args.store.now c.args.roots.now c.loop-root.root-index c.loop-root.found.items
    (drop_all c.loop-root.root-index c.args.roots.now c.loop-root-test.false) c.loop-root.invariant
