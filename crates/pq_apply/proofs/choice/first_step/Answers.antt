use Rattle.std.proofs.Common.{Some, ap, sym, ◌∙◌}
use Rattle.std.proofs.lemmas.Bool.{eqb-true}
use Rattle.pq_store.specs.Tree.Tree.{Tip, Fork}
use Rattle.pq_apply.proofs.Choices.{chosen_first, chosen_same, chosen_second, first_of_three}
use Rattle.pq_apply.proofs.Places.{earlier_lawful, lawful_at}
use Rattle.pq_apply.proofs.choice.first_step.Goals as goal

pub returns-then-eq-clause-step : goal.returns-then-eq-clause-step
returns-then-eq-clause-step g c =
    chosen_same c.args.tests.now c.args.cond c.args.store.now c.args.yes c.args.no c.requires.cond c.requires.yes c.root-yes_root.ensures.diagrams
    (eqb-true c.args.yes c.args.no (sym c.eq.ensures ∙ c.if-eq.true))

pub earlier-requires-clause-first : goal.earlier-requires-clause-first
earlier-requires-clause-first g c =
    let shows = c.in-Node.ensures.shows in
    (c.view-condition.ensures.diagrams c.args.cond (Fork c.in-Node.test shows.yes_tree shows.no_tree) shows.is).lawful.0

pub earlier-requires-clause-other : goal.earlier-requires-clause-other
earlier-requires-clause-other g c =
    lawful_at c.args.store.now c.args.yes c.root-yes_root.result c.root-yes_root.ensures.diagrams c.requires.yes
    c.root-yes_root.ensures.root

pub earlier-requires-in-Node-clause-first : goal.earlier-requires-in-Node-clause-first
earlier-requires-in-Node-clause-first g c =
    let shows = c.in-Node.ensures.shows in
    earlier_lawful c.in-Node.test c.root-yes_root.result c.earlier.result
    (c.view-condition.ensures.diagrams c.args.cond (Fork c.in-Node.test shows.yes_tree shows.no_tree) shows.is).lawful.0
    (lawful_at c.args.store.now c.args.yes c.root-yes_root.result c.root-yes_root.ensures.diagrams c.requires.yes
    c.root-yes_root.ensures.root) c.earlier.ensures

pub earlier-requires-in-Node-clause-other : goal.earlier-requires-in-Node-clause-other
earlier-requires-in-Node-clause-other g c =
    lawful_at c.args.store.now c.args.no c.root-no_root.result c.root-no_root.ensures.diagrams c.requires.no c.root-no_root.ensures.root

pub returns-in-Leaf-true-clause-step : goal.returns-in-Leaf-true-clause-step
returns-in-Leaf-true-clause-step g c =
    chosen_first c.args.tests.now c.args.cond c.args.store.now c.args.yes c.args.no c.requires.yes c.requires.no c.root-yes_root.ensures.diagrams
    (c.in-Leaf-true.ensures.shows ∙ ap (λ b. Some (Tip b)) c.in-Leaf-true.field-0-test)

pub returns-in-Leaf-false-clause-step : goal.returns-in-Leaf-false-clause-step
returns-in-Leaf-false-clause-step g c =
    chosen_second c.args.tests.now c.args.cond c.args.store.now c.args.yes c.args.no c.requires.yes c.requires.no c.root-yes_root.ensures.diagrams
    (c.in-Leaf-false.ensures.shows ∙ ap (λ b. Some (Tip b)) c.in-Leaf-false.field-0-test)

pub returns-in-Node-clause-step : goal.returns-in-Node-clause-step
returns-in-Node-clause-step g c =
    let shows = c.in-Node.ensures.shows in
    first_of_three c.args.tests.now c.args.cond c.args.store.now c.args.yes c.args.no c.in-Node.test c.in-Node.field-1 c.in-Node.field-2
    c.root-yes_root.result c.root-no_root.result c.earlier.result c.earlier-in-Node.result
    c.view-condition.ensures.diagrams c.root-no_root.ensures.diagrams shows c.requires.yes c.requires.no c.root-yes_root.ensures.root
    c.root-no_root.ensures.root
    c.earlier.ensures c.earlier-in-Node.ensures
