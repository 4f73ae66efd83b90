use Rattle.std.proofs.Common.{All, sym, subst}
use Rattle.pq_layout.specs.Sound.{IsSoundCopy}
use Rattle.pq_rules.specs.Renewing.{IsLeavingLeaf}
use Rattle.pq_rules.proofs.GatherLemmas.{element}
use Rattle.pq_rules.proofs.renewal.push_second.Goals as goal

pub leaf_copies-requires : goal.leaf_copies-requires
leaf_copies-requires c =
    (element (λ e. IsLeavingLeaf c.args.store.now e.1) c.args.entries.now c.loop-entry.entry-index c.entry-item.result c.requires.leaves
    c.loop-entry-test.true c.entry-item.is).0

pub leaving_actions-requires-clause-sound : goal.leaving_actions-requires-clause-sound
leaving_actions-requires-clause-sound c =
    subst (All IsSoundCopy) (sym c.leaf_copies.ensures)
    (element (λ e. IsLeavingLeaf c.args.store.now e.1) c.args.entries.now c.loop-entry.entry-index c.entry-item.result c.requires.leaves
    c.loop-entry-test.true c.entry-item.is).1
