use Rattle.std.proofs.Common.{◌∙◌, if◌then◌else◌, ap, sym}
use Rattle.pq_store.specs.Tree.Tree.{Fork}
use Rattle.pq_join.proofs.Fronts.{reached_leaf, reached_other, reached_side}
use Rattle.pq_join.proofs.choices.at_number.Goals as goal

pub decided-requires : goal.decided-requires
decided-requires g c =
    let shows = c.in-Node.ensures.shows in (c.view.ensures.diagrams c.loop-test.at (Fork c.in-Node.test shows.yes_tree shows.no_tree) shows.is).lawful.0

pub loop-test-preserved-then-decided : goal.loop-test-preserved-then-decided
loop-test-preserved-then-decided g c =
    reached_side c.args.field c.args.value c.args.store.now c.args.node c.loop-test.at c.in-Node.test c.in-Node.yes c.in-Node.no
    c.in-Node.yes c.loop-test.invariant c.in-Node.ensures.shows
    (c.is_of.ensures.0 c.if-is_of.true) (ap (λ b. if b then c.in-Node.yes else c.in-Node.no) (sym c.if-decided.true ∙ c.decided.ensures))

pub loop-test-preserved : goal.loop-test-preserved
loop-test-preserved g c =
    reached_side c.args.field c.args.value c.args.store.now c.args.node c.loop-test.at c.in-Node.test c.in-Node.yes c.in-Node.no
    c.in-Node.no c.loop-test.invariant c.in-Node.ensures.shows
    (c.is_of.ensures.0 c.if-is_of.true) (ap (λ b. if b then c.in-Node.yes else c.in-Node.no) (sym c.if-decided.false ∙ c.decided.ensures))

pub returns-in_default-clause-restricts : goal.returns-in_default-clause-restricts
returns-in_default-clause-restricts g c =
    reached_other c.args.field c.args.value c.args.store.now c.args.node c.loop-test.at c.in-Node.test c.in-Node.yes c.in-Node.no
    c.loop-test.invariant c.view.ensures.diagrams
    c.in-Node.ensures.shows (λ same. let e = c.is_of.ensures.1 same in let f = c.if-is_of.false in cc)

pub returns-in_default-2-clause-restricts : goal.returns-in_default-2-clause-restricts
returns-in_default-2-clause-restricts g c =
    let shows = rw c.in_default.is at c.view.ensures.shows in
    reached_leaf c.args.field c.args.value c.args.store.now c.args.node c.loop-test.at c.in_default.field-0.now c.loop-test.invariant
    c.view.ensures.diagrams shows
