use Rattle.std.proofs.Common.{◌≡◌, ◌∙◌, None, Some, if◌then◌else◌, ap, sym}
use Rattle.pq_fields.specs.Writes.{written_in}
use Rattle.pq_store.specs.Test.{field_of, passes}
use Rattle.pq_apply.specs.Restricting.{decides}
use Rattle.pq_rewrite.specs.Choices.{ChoosesByAt, test_needs}
use Rattle.pq_rewrite.proofs.Choosing.{chooses_by, fit_by}
use Rattle.pq_rewrite.proofs.Passed.{passed_chosen, passed_fit, passed_within, passing_condition, unwritten_chosen}
use Rattle.pq_rewrite.proofs.written.where_passed.Given.{Over}
use Rattle.pq_rewrite.proofs.written.where_passed.Goals as goal
use Rattle.pq_rewrite.proofs.written.where_passed.Goals.{In_ok-unwritten, After-field-in-Some, then-decided, else-decided}

pub ite-requires-clause-fit : goal.ite-requires-clause-fit
ite-requires-clause-fit g c =
    fit_by (passes c.args.test) (test_needs c.args.by.now c.args.test) c.passing.new.tests c.in_ok-passing.passing c.args.store.now c.args.yes c.args.no
    (passing_condition c.args.by.now c.args.test c.passing.new.tests c.in_ok-passing.passing c.in_ok-passing.ensures.tree) c.requires.fit

-- the first choice is by the test
by_test : (g : Over) (c : In_ok-unwritten g)
    → ChoosesByAt (passes c.args.test) (test_needs c.args.by.now c.args.test) c.args.store.now c.args.yes c.args.no c.ite.new.store c.in_ok-unwritten.unwritten
by_test g c =
    chooses_by (passes c.args.test) (test_needs c.args.by.now c.args.test) c.passing.new.tests c.in_ok-passing.passing c.args.store.now
    c.ite.new.store c.args.yes c.args.no c.in_ok-unwritten.unwritten
    (passing_condition c.args.by.now c.args.test c.passing.new.tests c.in_ok-passing.passing c.in_ok-passing.ensures.tree) c.in_ok-unwritten.ensures.chooses

-- the number is written into the test's field
number : (g : Over) (c : After-field-in-Some g) → written_in (field_of c.args.test) c.args.by.now ≡ Some c.in-Some.value
number g c = sym (rw c.field.ensures at c.in-Some.ensures.number)

-- the side that it decides
side : (g : Over) (c : After-field-in-Some g) → c.if-decided.written ≡ (if decides c.args.test c.in-Some.value then c.args.yes else c.args.no)
side g c = elim c.if-decided.branch [
  | then-decided w ↦ w.written-is ∙ ap (λ b. if b then c.args.yes else c.args.no) (sym (sym c.decided.ensures ∙ w.if-decided.true))
  | else-decided w ↦ w.written-is ∙ ap (λ b. if b then c.args.yes else c.args.no) (sym (sym c.decided.ensures ∙ w.if-decided.false))
]

pub where_present-requires-clause-yes : goal.where_present-requires-clause-yes
where_present-requires-clause-yes g c =
    let at = goal.at.where_present-requires-clause-yes g c in
    (passed_within c.args.by.now c.args.test c.in-Some.value (number g at.After-field-in-Some) c.args.store.now c.ite.new.store c.args.yes
    c.args.no c.if-decided.written c.in_ok-unwritten.unwritten
    (side g at.After-field-in-Some) c.ite.ensures.keeps c.requires.yes c.requires.no (by_test g at.In_ok-unwritten)).0

pub where_present-requires-clause-no : goal.where_present-requires-clause-no
where_present-requires-clause-no g c =
    let at = goal.at.where_present-requires-clause-no g c in
    (passed_within c.args.by.now c.args.test c.in-Some.value (number g at.After-field-in-Some) c.args.store.now c.ite.new.store c.args.yes
    c.args.no c.if-decided.written c.in_ok-unwritten.unwritten
    (side g at.After-field-in-Some) c.ite.ensures.keeps c.requires.yes c.requires.no (by_test g at.In_ok-unwritten)).1

pub where_present-requires-clause-fit : goal.where_present-requires-clause-fit
where_present-requires-clause-fit g c =
    let at = goal.at.where_present-requires-clause-fit g c in
    rw c.field-in-Some.ensures
    (passed_fit c.args.by.now c.args.test c.in-Some.value (number g at.After-field-in-Some) c.args.store.now c.ite.new.store c.args.yes
    c.args.no c.if-decided.written c.in_ok-unwritten.unwritten
    (side g at.After-field-in-Some) c.ite.ensures.keeps c.requires.yes c.requires.no c.requires.fit (by_test g at.In_ok-unwritten))

pub returns-in-None-clause-chooses : goal.returns-in-None-clause-chooses
returns-in-None-clause-chooses g c =
    let at = (goal.at.returns-in-None-clause-chooses g c).In_ok-unwritten in
    let none : written_in (field_of c.args.test) c.args.by.now ≡ None = sym (rw c.field.ensures at c.in-None.ensures.number) in
    unwritten_chosen c.args.by.now c.args.test c.args.store.now c.ite.new.store c.args.yes c.args.no c.in_ok-unwritten.unwritten none (by_test g at)

pub returns-in_ok-id-in-Some-clause-chooses : goal.returns-in_ok-id-in-Some-clause-chooses
returns-in_ok-id-in-Some-clause-chooses g c =
    let at = goal.at.returns-in_ok-id-in-Some-clause-chooses g c in
    passed_chosen c.args.by.now c.args.test c.in-Some.value (number g at.After-field-in-Some) c.args.store.now c.ite.new.store
    c.where_present.new.store c.args.yes c.args.no
    c.if-decided.written c.in_ok-unwritten.unwritten c.in_ok-id-in-Some.id (side g at.After-field-in-Some) c.ite.ensures.keeps (by_test g at.In_ok-unwritten)
    (rw c.field-in-Some.ensures at c.in_ok-id-in-Some.ensures.chooses)
