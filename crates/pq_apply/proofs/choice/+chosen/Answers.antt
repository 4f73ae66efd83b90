use Rattle.std.proofs.Common.{◌≡◌, ◌+◌, ℕ, arith, sym}
use Rattle.std.proofs.lemmas.Option.{slice_get_within}
use Rattle.pq_apply.specs.Choosing.{IsChosenAt}
use Rattle.pq_apply.proofs.Choices.{IsChoiceStage, choice_stage, chosen_joinable, chosen_node, chosen_still, failed_falls, failed_fit}
use Rattle.pq_apply.proofs.Choices.{passed_falls, passed_fit, remembers_choice, stage_still}
use Rattle.pq_apply.proofs.Places.{no_within, size_at, yes_within}
use Rattle.pq_apply.proofs.choice.+chosen.Given.{Over}
use Rattle.pq_apply.proofs.choice.+chosen.Goals as goal
use Rattle.pq_apply.proofs.choice.+chosen.Goals.{After-split-no_yes, In_ok-failed-in-First, In_ok-id-in-First}

-- the three nodes are split by the first of their tests
stage_at : (g : Over) (m : ℕ) (c : After-split-no_yes g m)
    → IsChoiceStage c.args.tests.now c.args.cond c.args.store.now c.args.yes c.args.no c.in-First.test c.split-cond_yes.result.0
    c.split-cond_yes.result.1 c.split-yes_yes.result.0 c.split-yes_yes.result.1 c.split-no_yes.result.0 c.split-no_yes.result.1
stage_at g m c =
    choice_stage c.args.tests.now c.args.cond c.args.store.now c.args.yes c.args.no c.in-First.test c.split-cond_yes.result.0
    c.split-cond_yes.result.1 c.split-yes_yes.result.0 c.split-yes_yes.result.1 c.split-no_yes.result.0 c.split-no_yes.result.1
    c.in-First.ensures.tests c.in-First.ensures.store c.requires.fit c.in-First.ensures.step c.split-cond_yes.ensures
    c.split-yes_yes.ensures c.split-no_yes.ensures

-- so they are in the store with what is made of their sides
stage_last : (g : Over) (m : ℕ) (c : In_ok-failed-in-First g m)
    → IsChoiceStage c.args.tests.now c.args.cond c.args.store.now c.args.yes c.args.no c.in-First.test c.split-cond_yes.result.0
    c.split-cond_yes.result.1 c.split-yes_yes.result.0 c.split-yes_yes.result.1 c.split-no_yes.result.0 c.split-no_yes.result.1
    → IsChoiceStage c.args.tests.now c.args.cond c.chosen-in-First.new.store c.args.yes c.args.no c.in-First.test c.split-cond_yes.result.0
    c.split-cond_yes.result.1 c.split-yes_yes.result.0 c.split-yes_yes.result.1 c.split-no_yes.result.0 c.split-no_yes.result.1
stage_last g m c st = stage_still (λ k t h. c.in_ok-failed-in-First.ensures.keeps k t (c.in_ok-passed-in-First.ensures.keeps k t h)) st

-- what was made of the yes sides stays
passed_last : (g : Over) (m : ℕ) (c : In_ok-failed-in-First g m)
    → IsChosenAt c.args.tests.now c.split-cond_yes.result.0 c.chosen-in-First.new.store c.split-yes_yes.result.0 c.split-no_yes.result.0
    c.in_ok-passed-in-First.passed
passed_last g m c = chosen_still c.in_ok-failed-in-First.ensures.keeps c.in_ok-passed-in-First.ensures.chosen

-- the new node is chosen
chosen_last : (g : Over) (m : ℕ) (c : In_ok-id-in-First g m)
    → IsChoiceStage c.args.tests.now c.args.cond c.chosen-in-First.new.store c.args.yes c.args.no c.in-First.test c.split-cond_yes.result.0
    c.split-cond_yes.result.1 c.split-yes_yes.result.0 c.split-yes_yes.result.1 c.split-no_yes.result.0 c.split-no_yes.result.1
    → IsChosenAt c.args.tests.now c.split-cond_yes.result.0 c.chosen-in-First.new.store c.split-yes_yes.result.0 c.split-no_yes.result.0
    c.in_ok-passed-in-First.passed
    → IsChosenAt c.args.tests.now c.args.cond c.node.new.self c.args.yes c.args.no c.in_ok-id-in-First.id
chosen_last g m c st passed =
    chosen_node st passed c.in_ok-failed-in-First.ensures.chosen c.node.new.self c.in_ok-id-in-First.id c.in_ok-id-in-First.ensures.keeps
    c.in_ok-id-in-First.ensures.tree

pub returns-in-Some-clause-chosen : goal.returns-in-Some-clause-chosen
returns-in-Some-clause-chosen g m c = c.requires.done (c.args.cond, c.args.yes, c.args.no) c.in-Some.id (sym c.in-Some.ensures)

pub chosen-requires : goal.chosen-requires
chosen-requires g m c κs within =
    let st = stage_at g m (goal.at.chosen-requires g m c).After-split-no_yes in
    let whole : size_at c.args.tests.now c.args.cond + size_at c.args.store.now c.args.yes + size_at c.args.store.now c.args.no ≡ m = c.decreases in
    let falls = passed_falls st in (
      omega (arith, whole, falls),
      (
        within,
        (
          yes_within st.condition_sides,
          (yes_within st.left_sides, (yes_within st.right_sides, (passed_fit st, c.requires.done))),
        ),
      ),
    )

pub chosen-requires-in-First : goal.chosen-requires-in-First
chosen-requires-in-First g m c κs within =
    let st = stage_at g m (goal.at.chosen-requires-in-First g m c).After-split-no_yes in
    let later = stage_still c.in_ok-passed-in-First.ensures.keeps st in
    let whole : size_at c.args.tests.now c.args.cond + size_at c.args.store.now c.args.yes + size_at c.args.store.now c.args.no ≡ m = c.decreases in
    let falls = failed_falls st c.chosen.new.store c.in_ok-passed-in-First.ensures.keeps in
    let done = c.in_ok-passed-in-First.ensures.done in (
      omega (arith, whole, falls),
      (within, (no_within later.condition_sides, (no_within later.left_sides, (no_within later.right_sides, (failed_fit later, done))))),
    )

pub node-requires-clause-yes : goal.node-requires-clause-yes
node-requires-clause-yes g m c =
    let made = passed_last g m (goal.at.node-requires-clause-yes g m c).In_ok-failed-in-First in
    slice_get_within c.chosen-in-First.new.store c.in_ok-passed-in-First.passed made.chosen made.is

pub node-requires-clause-no : goal.node-requires-clause-no
node-requires-clause-no g m c =
    let made = c.in_ok-failed-in-First.ensures.chosen in slice_get_within c.chosen-in-First.new.store c.in_ok-failed-in-First.failed made.chosen made.is

pub node-requires-clause-sides : goal.node-requires-clause-sides
node-requires-clause-sides g m c =
    let at = goal.at.node-requires-clause-sides g m c in
    chosen_joinable (stage_last g m at.In_ok-failed-in-First (stage_at g m at.After-split-no_yes))
    (passed_last g m at.In_ok-failed-in-First) c.in_ok-failed-in-First.ensures.chosen

pub returns-in_ok-remember-in-First-clause-chosen : goal.returns-in_ok-remember-in-First-clause-chosen
returns-in_ok-remember-in-First-clause-chosen g m c =
    let at = goal.at.returns-in_ok-remember-in-First-clause-chosen g m c in
    chosen_last g m at.In_ok-id-in-First (stage_last g m at.In_ok-failed-in-First (stage_at g m at.After-split-no_yes))
    (passed_last g m at.In_ok-failed-in-First)

pub returns-in_ok-remember-in-First-clause-done : goal.returns-in_ok-remember-in-First-clause-done
returns-in_ok-remember-in-First-clause-done g m c =
    let at = goal.at.returns-in_ok-remember-in-First-clause-done g m c in
    remembers_choice c.chosen-in-First.new.done c.remember.new.done c.in_ok-id-in-First.ensures.keeps c.in_ok-failed-in-First.ensures.done
    (chosen_last g m at.In_ok-id-in-First (stage_last g m at.In_ok-failed-in-First (stage_at g m at.After-split-no_yes))
    (passed_last g m at.In_ok-failed-in-First))
    c.in_ok-remember-in-First.ensures

pub returns-in_ok-remember-in-First-clause-keeps : goal.returns-in_ok-remember-in-First-clause-keeps
returns-in_ok-remember-in-First-clause-keeps g m c k t h =
    c.in_ok-id-in-First.ensures.keeps k t (c.in_ok-failed-in-First.ensures.keeps k t (c.in_ok-passed-in-First.ensures.keeps k t h))

pub returns-in_err-remember-in-First-clause-keeps : goal.returns-in_err-remember-in-First-clause-keeps
returns-in_err-remember-in-First-clause-keeps g m c =
    λ k t at. c.in_ok-id-in-First.ensures.keeps k t (c.in_ok-failed-in-First.ensures.keeps k t (c.in_ok-passed-in-First.ensures.keeps k t at))
