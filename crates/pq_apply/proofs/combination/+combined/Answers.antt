use Rattle.std.proofs.Common.{◌≡◌, ◌+◌, ℕ, arith, refl, sym}
use Rattle.std.proofs.lemmas.Option.{slice_get_within}
use Rattle.pq_apply.specs.Product.{FitTogetherAt}
use Rattle.pq_apply.proofs.Combined.{combined_leaves, combined_node, combined_still, fit_still, no_falls_still, remembers_combined, stage_still}
use Rattle.pq_apply.proofs.Pairs.{IsStage, no_fit, paired_joinable, stage, yes_falls, yes_fit}
use Rattle.pq_apply.proofs.Places.{no_within, size_at, yes_within}
use Rattle.pq_apply.proofs.combination.+combined.Given.{Over}
use Rattle.pq_apply.proofs.combination.+combined.Goals as goal
use Rattle.pq_apply.proofs.combination.+combined.Goals.{After-split-y_yes, In_ok-no-in-First}

-- the two nodes are split by the first of their tests
stage_at : (g : Over) (m : ℕ) (c : After-split-y_yes g m)
    → IsStage c.args.store.now c.args.x c.args.store.now c.args.y c.in-First.test c.split-x_yes.result.0 c.split-x_yes.result.1
    c.split-y_yes.result.0 c.split-y_yes.result.1
stage_at g m c =
    stage c.args.store.now c.args.x c.args.store.now c.args.y c.in-First.test c.split-x_yes.result.0 c.split-x_yes.result.1
    c.split-y_yes.result.0 c.split-y_yes.result.1
    c.in-First.ensures.left c.in-First.ensures.right c.in-First.ensures.top c.split-x_yes.ensures c.split-y_yes.ensures

-- they are in the store with what is made of their sides
stage_last : (g : Over) (m : ℕ) (c : In_ok-no-in-First g m)
    → IsStage c.args.store.now c.args.x c.args.store.now c.args.y c.in-First.test c.split-x_yes.result.0 c.split-x_yes.result.1
    c.split-y_yes.result.0 c.split-y_yes.result.1
    → IsStage c.combined-in-First.new.store c.args.x c.combined-in-First.new.store c.args.y c.in-First.test c.split-x_yes.result.0
    c.split-x_yes.result.1 c.split-y_yes.result.0 c.split-y_yes.result.1
stage_last g m c st = stage_still (λ k t h. c.in_ok-no-in-First.ensures.keeps k t (c.in_ok-yes-in-First.ensures.keeps k t h)) st

-- and they may come together there
fit_last : (g : Over) (m : ℕ) (c : In_ok-no-in-First g m) → FitTogetherAt c.combined-in-First.new.store c.args.x c.combined-in-First.new.store c.args.y
fit_last g m c =
    fit_still c.args.store.now c.combined-in-First.new.store c.args.x c.args.y
    (λ k t h. c.in_ok-no-in-First.ensures.keeps k t (c.in_ok-yes-in-First.ensures.keeps k t h))
    c.requires.x c.requires.y c.requires.fit

pub returns-in-Some-clause-paired : goal.returns-in-Some-clause-paired
returns-in-Some-clause-paired g m c = c.requires.done (c.args.x, c.args.y) c.in-Some.id (sym c.in-Some.ensures)

pub combined-requires : goal.combined-requires
combined-requires g m c κs within =
    let st = stage_at g m (goal.at.combined-requires g m c).After-split-y_yes in
    let whole : size_at c.args.store.now c.args.x + size_at c.args.store.now c.args.y ≡ m = c.decreases in
    let falls = yes_falls st in
    let fit = yes_fit st c.requires.fit in
    (omega (arith, whole, falls), (within.0, (within.1, (yes_within st.left, (yes_within st.right, (fit, (c.requires.join, c.requires.done)))))))

pub combined-requires-in-First : goal.combined-requires-in-First
combined-requires-in-First g m c κs within =
    let keeps = c.in_ok-yes-in-First.ensures.keeps in
    let st = stage_at g m (goal.at.combined-requires-in-First g m c).After-split-y_yes in
    let later = stage_still keeps st in
    let whole : size_at c.args.store.now c.args.x + size_at c.args.store.now c.args.y ≡ m = c.decreases in
    let falls = no_falls_still c.combined.new.store keeps st in
    let fit = no_fit later (fit_still c.args.store.now c.combined.new.store c.args.x c.args.y keeps c.requires.x c.requires.y c.requires.fit) in (
      omega (arith, whole, falls),
      (
        within.0,
        (
          within.1,
          (no_within later.left, (no_within later.right, (fit, (c.requires.join, c.in_ok-yes-in-First.ensures.done)))),
        ),
      ),
    )

pub node-requires-clause-yes : goal.node-requires-clause-yes
node-requires-clause-yes g m c =
    let made = c.in_ok-yes-in-First.ensures.paired in
    slice_get_within c.combined-in-First.new.store c.in_ok-yes-in-First.yes made.paired
    (c.in_ok-no-in-First.ensures.keeps c.in_ok-yes-in-First.yes made.paired made.is)

pub node-requires-clause-no : goal.node-requires-clause-no
node-requires-clause-no g m c =
    let made = c.in_ok-no-in-First.ensures.paired in slice_get_within c.combined-in-First.new.store c.in_ok-no-in-First.no made.paired made.is

pub node-requires-clause-sides : goal.node-requires-clause-sides
node-requires-clause-sides g m c =
    let at = goal.at.node-requires-clause-sides g m c in
    paired_joinable _ (stage_last g m at.In_ok-no-in-First (stage_at g m at.After-split-y_yes)) (fit_last g m at.In_ok-no-in-First)
    (combined_still _ c.in_ok-no-in-First.ensures.keeps c.in_ok-yes-in-First.ensures.paired) c.in_ok-no-in-First.ensures.paired

pub returns-in_err-remember-in-First-clause-keeps : goal.returns-in_err-remember-in-First-clause-keeps
returns-in_err-remember-in-First-clause-keeps g m c k t h =
    c.in_ok-id-in-First.ensures.keeps k t (c.in_ok-no-in-First.ensures.keeps k t (c.in_ok-yes-in-First.ensures.keeps k t h))

pub returns-in_ok-remember-in-Leaves-clause-paired : goal.returns-in_ok-remember-in-Leaves-clause-paired
returns-in_ok-remember-in-Leaves-clause-paired g m c =
    combined_leaves _ c.args.store.now c.in_ok-id-in-Leaves.ensures.keeps c.in-Leaves.ensures.top.0 c.in-Leaves.ensures.top.1 c.in_ok-id-in-Leaves.ensures.leaf
    (c.in-Leaves.a, c.in-Leaves.b, refl, refl, c.in_ok-value-in-Leaves.ensures)

pub returns-in_ok-remember-in-Leaves-clause-done : goal.returns-in_ok-remember-in-Leaves-clause-done
returns-in_ok-remember-in-Leaves-clause-done g m c =
    remembers_combined _ c.args.done.now c.remember.new.done c.in_ok-id-in-Leaves.ensures.keeps c.requires.done
    (combined_leaves _ c.args.store.now c.in_ok-id-in-Leaves.ensures.keeps c.in-Leaves.ensures.top.0 c.in-Leaves.ensures.top.1 c.in_ok-id-in-Leaves.ensures.leaf
    (c.in-Leaves.a, c.in-Leaves.b, refl, refl, c.in_ok-value-in-Leaves.ensures))
    c.in_ok-remember-in-Leaves.ensures

pub returns-in_ok-remember-in-First-clause-paired : goal.returns-in_ok-remember-in-First-clause-paired
returns-in_ok-remember-in-First-clause-paired g m c =
    let at = goal.at.returns-in_ok-remember-in-First-clause-paired g m c in
    combined_node _ c.node.new.self (stage_last g m at.In_ok-no-in-First (stage_at g m at.After-split-y_yes)) (fit_last g m at.In_ok-no-in-First)
    (combined_still _ c.in_ok-no-in-First.ensures.keeps c.in_ok-yes-in-First.ensures.paired) c.in_ok-no-in-First.ensures.paired
    c.in_ok-id-in-First.ensures.keeps c.in_ok-id-in-First.ensures.tree

pub returns-in_ok-remember-in-First-clause-done : goal.returns-in_ok-remember-in-First-clause-done
returns-in_ok-remember-in-First-clause-done g m c =
    let at = goal.at.returns-in_ok-remember-in-First-clause-done g m c in
    remembers_combined _ c.combined-in-First.new.done c.remember-in-First.new.done c.in_ok-id-in-First.ensures.keeps c.in_ok-no-in-First.ensures.done
    (combined_node _ c.node.new.self (stage_last g m at.In_ok-no-in-First (stage_at g m at.After-split-y_yes)) (fit_last g m at.In_ok-no-in-First)
    (combined_still _ c.in_ok-no-in-First.ensures.keeps c.in_ok-yes-in-First.ensures.paired) c.in_ok-no-in-First.ensures.paired
    c.in_ok-id-in-First.ensures.keeps c.in_ok-id-in-First.ensures.tree)
    c.in_ok-remember-in-First.ensures

pub returns-in_ok-remember-in-First-clause-keeps : goal.returns-in_ok-remember-in-First-clause-keeps
returns-in_ok-remember-in-First-clause-keeps g m c k t h =
    c.in_ok-id-in-First.ensures.keeps k t (c.in_ok-no-in-First.ensures.keeps k t (c.in_ok-yes-in-First.ensures.keeps k t h))
