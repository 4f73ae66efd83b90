use Rattle.std.proofs.Common.{◌∙◌, if◌then◌else◌, ap, sym}
use Rattle.pq_store.specs.Tree.Tree.{Fork}
use Rattle.pq_local.proofs.Behind.{behind_side}
use Rattle.pq_local.proofs.places.switch_place.Goals as goal

pub decided-requires : goal.decided-requires
decided-requires c =
    let shows = c.in-Node.ensures.shows in (c.view.ensures.diagrams c.loop-test.at (Fork c.in-Node.test shows.yes_tree shows.no_tree) shows.is).lawful.0

pub loop-test-preserved-then-decided : goal.loop-test-preserved-then-decided
loop-test-preserved-then-decided c =
    behind_side c.args.datapath c.args.store.now c.args.node c.loop-test.at c.in-Node.test c.in-Node.yes c.in-Node.no c.in-Node.yes
    c.loop-test.invariant c.in-Node.ensures.shows
    (c.is_of_switch.ensures.0 c.if-is_of_switch.true) (ap (λ b. if b then c.in-Node.yes else c.in-Node.no) (sym c.if-decided.true ∙ c.decided.ensures))

pub loop-test-preserved : goal.loop-test-preserved
loop-test-preserved c =
    behind_side c.args.datapath c.args.store.now c.args.node c.loop-test.at c.in-Node.test c.in-Node.yes c.in-Node.no c.in-Node.no
    c.loop-test.invariant c.in-Node.ensures.shows
    (c.is_of_switch.ensures.0 c.if-is_of_switch.true) (ap (λ b. if b then c.in-Node.yes else c.in-Node.no) (sym c.if-decided.false ∙ c.decided.ensures))
