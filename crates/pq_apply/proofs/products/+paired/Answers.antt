use Rattle.std.proofs.Common.{◌≡◌, ◌+◌, ℕ, arith, refl, sym}
use Rattle.std.proofs.lemmas.Option.{slice_get_within}
use Rattle.pq_apply.proofs.Pairs.{IsStage, no_falls, no_fit, paired_joinable, paired_leaves, paired_node, paired_still, remembers_pair}
use Rattle.pq_apply.proofs.Pairs.{stage, yes_falls, yes_fit}
use Rattle.pq_apply.proofs.Places.{no_within, size_at, yes_within}
use Rattle.pq_apply.proofs.products.+paired.Given.{Over}
use Rattle.pq_apply.proofs.products.+paired.Goals as goal
use Rattle.pq_apply.proofs.products.+paired.Goals.{After-split-y_yes}

-- the two nodes are split by the first of their tests
stage_at : (g : Over) (m : ℕ) (c : After-split-y_yes g m)
    → IsStage c.args.left.now c.args.x c.args.right.now c.args.y c.in-First.test c.split-x_yes.result.0 c.split-x_yes.result.1
    c.split-y_yes.result.0 c.split-y_yes.result.1
stage_at g m c =
    stage c.args.left.now c.args.x c.args.right.now c.args.y c.in-First.test c.split-x_yes.result.0 c.split-x_yes.result.1
    c.split-y_yes.result.0 c.split-y_yes.result.1
    c.in-First.ensures.left c.in-First.ensures.right c.in-First.ensures.top c.split-x_yes.ensures c.split-y_yes.ensures

pub returns-in-Some-clause-paired : goal.returns-in-Some-clause-paired
returns-in-Some-clause-paired g m c = c.requires.done (c.args.x, c.args.y) c.in-Some.id (sym c.in-Some.ensures)

pub paired-requires : goal.paired-requires
paired-requires g m c κs within =
    let st = stage_at g m (goal.at.paired-requires g m c).After-split-y_yes in
    let whole : size_at c.args.left.now c.args.x + size_at c.args.right.now c.args.y ≡ m = c.decreases in
    let falls = yes_falls st in
    let fit = yes_fit st c.requires.fit in (
      omega (arith, whole, falls),
      (
        within.0,
        (
          within.1.0,
          (within.1.1.0, (within.1.1.1, (yes_within st.left, (yes_within st.right, (fit, (c.requires.join, c.requires.done)))))),
        ),
      ),
    )

pub paired-requires-in-First : goal.paired-requires-in-First
paired-requires-in-First g m c κs within =
    let st = stage_at g m (goal.at.paired-requires-in-First g m c).After-split-y_yes in
    let whole : size_at c.args.left.now c.args.x + size_at c.args.right.now c.args.y ≡ m = c.decreases in
    let falls = no_falls st in
    let fit = no_fit st c.requires.fit in (
      omega (arith, whole, falls),
      (
        within.0,
        (
          within.1.0,
          (
            within.1.1.0,
            (
              within.1.1.1,
              (no_within st.left, (no_within st.right, (fit, (c.requires.join, c.in_ok-yes-in-First.ensures.done)))),
            ),
          ),
        ),
      ),
    )

pub returns-in_err-no-in-First-clause-keeps : goal.returns-in_err-no-in-First-clause-keeps
returns-in_err-no-in-First-clause-keeps g m c k t h = c.in_err-no-in-First.ensures.keeps k t (c.in_ok-yes-in-First.ensures.keeps k t h)

pub node-requires-clause-yes : goal.node-requires-clause-yes
node-requires-clause-yes g m c =
    let made = c.in_ok-yes-in-First.ensures.paired in
    slice_get_within c.paired-in-First.new.into c.in_ok-yes-in-First.yes made.paired
    (c.in_ok-no-in-First.ensures.keeps c.in_ok-yes-in-First.yes made.paired made.is)

pub node-requires-clause-no : goal.node-requires-clause-no
node-requires-clause-no g m c =
    let made = c.in_ok-no-in-First.ensures.paired in slice_get_within c.paired-in-First.new.into c.in_ok-no-in-First.no made.paired made.is

pub node-requires-clause-sides : goal.node-requires-clause-sides
node-requires-clause-sides g m c =
    paired_joinable _ (stage_at g m (goal.at.node-requires-clause-sides g m c).After-split-y_yes) c.requires.fit
    (paired_still _ c.in_ok-no-in-First.ensures.keeps c.in_ok-yes-in-First.ensures.paired) c.in_ok-no-in-First.ensures.paired

pub returns-in_err-id-in-First-clause-keeps : goal.returns-in_err-id-in-First-clause-keeps
returns-in_err-id-in-First-clause-keeps g m c k t h =
    c.in_err-id-in-First.ensures.keeps k t (c.in_ok-no-in-First.ensures.keeps k t (c.in_ok-yes-in-First.ensures.keeps k t h))

pub returns-in_err-remember-in-First-clause-keeps : goal.returns-in_err-remember-in-First-clause-keeps
returns-in_err-remember-in-First-clause-keeps g m c k t h =
    c.in_ok-id-in-First.ensures.keeps k t (c.in_ok-no-in-First.ensures.keeps k t (c.in_ok-yes-in-First.ensures.keeps k t h))

pub returns-in_ok-remember-in-Leaves-clause-paired : goal.returns-in_ok-remember-in-Leaves-clause-paired
returns-in_ok-remember-in-Leaves-clause-paired g m c =
    paired_leaves _ c.in-Leaves.ensures.top.0 c.in-Leaves.ensures.top.1 c.in_ok-id-in-Leaves.ensures.leaf (
      c.in-Leaves.a,
      c.in-Leaves.b,
      refl,
      refl,
      c.in_ok-value-in-Leaves.ensures,
    )

pub returns-in_ok-remember-in-Leaves-clause-done : goal.returns-in_ok-remember-in-Leaves-clause-done
returns-in_ok-remember-in-Leaves-clause-done g m c =
    remembers_pair _ c.args.done.now c.remember.new.done c.in_ok-id-in-Leaves.ensures.keeps c.requires.done
    (paired_leaves _ c.in-Leaves.ensures.top.0 c.in-Leaves.ensures.top.1 c.in_ok-id-in-Leaves.ensures.leaf (
      c.in-Leaves.a,
      c.in-Leaves.b,
      refl,
      refl,
      c.in_ok-value-in-Leaves.ensures,
    ))
    c.in_ok-remember-in-Leaves.ensures

pub returns-in_ok-remember-in-First-clause-paired : goal.returns-in_ok-remember-in-First-clause-paired
returns-in_ok-remember-in-First-clause-paired g m c =
    paired_node _ (stage_at g m (goal.at.returns-in_ok-remember-in-First-clause-paired g m c).After-split-y_yes) c.requires.fit
    (paired_still _ c.in_ok-no-in-First.ensures.keeps c.in_ok-yes-in-First.ensures.paired) c.in_ok-no-in-First.ensures.paired
    c.node.new.self c.in_ok-id-in-First.id c.in_ok-id-in-First.ensures.tree

pub returns-in_ok-remember-in-First-clause-done : goal.returns-in_ok-remember-in-First-clause-done
returns-in_ok-remember-in-First-clause-done g m c =
    remembers_pair _ c.paired-in-First.new.done c.remember-in-First.new.done c.in_ok-id-in-First.ensures.keeps c.in_ok-no-in-First.ensures.done
    (paired_node _ (stage_at g m (goal.at.returns-in_ok-remember-in-First-clause-done g m c).After-split-y_yes) c.requires.fit
    (paired_still _ c.in_ok-no-in-First.ensures.keeps c.in_ok-yes-in-First.ensures.paired) c.in_ok-no-in-First.ensures.paired
    c.node.new.self c.in_ok-id-in-First.id c.in_ok-id-in-First.ensures.tree)
    c.in_ok-remember-in-First.ensures

pub returns-in_ok-remember-in-First-clause-keeps : goal.returns-in_ok-remember-in-First-clause-keeps
returns-in_ok-remember-in-First-clause-keeps g m c k t h =
    c.in_ok-id-in-First.ensures.keeps k t (c.in_ok-no-in-First.ensures.keeps k t (c.in_ok-yes-in-First.ensures.keeps k t h))
