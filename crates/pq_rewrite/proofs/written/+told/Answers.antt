use Rattle.std.proofs.Common.{ℕ, ◌<◌, ◌≡◌, length, arith}
use Rattle.std.proofs.lemmas.Option.{slice_get_within}
use Rattle.pq_store.specs.Tree.Tree.{Fork}
use Rattle.pq_rewrite.specs.Choices.{IsToldAt}
use Rattle.pq_rewrite.proofs.Told.{both_fit, remembers_told, side_below, side_fits, told_both, told_fit, told_leaf, told_side, told_still}
use Rattle.pq_rewrite.proofs.written.+told.Given.{Over}
use Rattle.pq_rewrite.proofs.written.+told.Goals as goal
use Rattle.pq_rewrite.proofs.written.+told.Goals.{In_ok-id-in-Leaf, In_ok-id-in-Side, In_ok-failed-in-Both, In_ok-id-in-Both}

pub told-requires : goal.told-requires
told-requires g t c κs within =
    let step = c.in-Side.ensures.step in
    let below = side_below c.args.by.now c.args.from.now c.args.node c.in-Side.side step in
    let whole : c.args.node ≡ t = c.decreases in
    let inside : c.args.node < length c.args.from.now = c.requires.node in (
      omega arith,
      (
        within,
        (
          omega arith,
          (
            side_fits c.args.by.now c.args.from.now c.args.node c.in-Side.side step c.requires.fits,
            (c.requires.clones, c.requires.done),
          ),
        ),
      ),
    )

pub told-requires-in-Both : goal.told-requires-in-Both
told-requires-in-Both g t c κs within =
    let shows = c.in-Both.ensures.step in
    let below = shows.yes_below in
    let whole : c.args.node ≡ t = c.decreases in
    let inside : c.args.node < length c.args.from.now = c.requires.node in
    let fits = both_fit c.args.by.now c.args.from.now c.args.node c.in-Both.yes c.in-Both.no c.in-Both.test shows c.requires.fits in
    (omega arith, (within, (omega arith, (fits.0, (c.requires.clones, c.requires.done)))))

pub told-requires-in-Both-2 : goal.told-requires-in-Both-2
told-requires-in-Both-2 g t c κs within =
    let shows = c.in-Both.ensures.step in
    let below = shows.no_below in
    let whole : c.args.node ≡ t = c.decreases in
    let inside : c.args.node < length c.args.from.now = c.requires.node in
    let fits = both_fit c.args.by.now c.args.from.now c.args.node c.in-Both.yes c.in-Both.no c.in-Both.test shows c.requires.fits in
    (omega arith, (within, (omega arith, (fits.1, (c.requires.clones, c.in_ok-passed-in-Both.ensures.done)))))

-- what is told of the yes side stays
left : (g : Over) (t : ℕ) (c : In_ok-failed-in-Both g t)
    → IsToldAt c.args.by.now c.args.from.now c.in-Both.yes c.told-in-Both-2.new.into c.in_ok-passed-in-Both.passed
left g t c =
    told_still c.args.by.now c.args.from.now c.told-in-Both.new.into c.told-in-Both-2.new.into c.in-Both.yes c.in_ok-passed-in-Both.passed
    c.told-in-Both-2.ensures.keeps c.in_ok-passed-in-Both.ensures.told

pub where_passed-requires-clause-lawful : goal.where_passed-requires-clause-lawful
where_passed-requires-clause-lawful g t c =
    let shows = c.in-Both.ensures.step in
    (c.in-Both.ensures.diagrams c.args.node (Fork c.in-Both.test shows.yes_tree shows.no_tree) shows.is).lawful.0

pub where_passed-requires-clause-yes : goal.where_passed-requires-clause-yes
where_passed-requires-clause-yes g t c =
    let made = left g t (goal.at.where_passed-requires-clause-yes g t c).In_ok-failed-in-Both in
    slice_get_within c.told-in-Both-2.new.into c.in_ok-passed-in-Both.passed made.told made.told_is

pub where_passed-requires-clause-no : goal.where_passed-requires-clause-no
where_passed-requires-clause-no g t c =
    let made = c.in_ok-failed-in-Both.ensures.told in
    slice_get_within c.told-in-Both-2.new.into c.in_ok-failed-in-Both.failed made.told made.told_is

pub where_passed-requires-clause-fit : goal.where_passed-requires-clause-fit
where_passed-requires-clause-fit g t c =
    told_fit c.args.by.now c.args.from.now c.told-in-Both-2.new.into c.args.node c.in-Both.yes c.in-Both.no c.in_ok-passed-in-Both.passed
    c.in_ok-failed-in-Both.failed c.in-Both.test
    c.in-Both.ensures.step c.requires.fits (left g t (goal.at.where_passed-requires-clause-fit g t c).In_ok-failed-in-Both) c.in_ok-failed-in-Both.ensures.told

-- a leaf is told
leaf_made : (g : Over) (t : ℕ) (c : In_ok-id-in-Leaf g t) → IsToldAt c.args.by.now c.args.from.now c.args.node c.leaf.new.self c.in_ok-id-in-Leaf.id
leaf_made g t c =
    told_leaf c.args.by.now c.args.from.now c.leaf.new.self c.args.node c.in_ok-id-in-Leaf.id c.in-Leaf.leaf.now c.in_ok-copy-in-Leaf.copy
    c.in-Leaf.ensures.step c.in_ok-id-in-Leaf.ensures.leaf
    (c.requires.clones c.in-Leaf.leaf.now c.in_ok-copy-in-Leaf.copy c.in_ok-copy-in-Leaf.ensures.cases)

pub returns-in_ok-remember-in-Leaf-clause-done : goal.returns-in_ok-remember-in-Leaf-clause-done
returns-in_ok-remember-in-Leaf-clause-done g t c =
    let at = goal.at.returns-in_ok-remember-in-Leaf-clause-done g t c in
    remembers_told c.args.by.now c.args.from.now c.args.into.now c.leaf.new.self c.args.node c.in_ok-id-in-Leaf.id c.args.done.now c.remember.new.done
    c.leaf.ensures.keeps c.requires.done (leaf_made g t at.In_ok-id-in-Leaf) c.in_ok-remember-in-Leaf.ensures

-- where one side is reached, what is told of it is told of the whole
side_made : (g : Over) (t : ℕ) (c : In_ok-id-in-Side g t) → IsToldAt c.args.by.now c.args.from.now c.args.node c.told.new.into c.in_ok-id-in-Side.id
side_made g t c =
    told_side c.args.by.now c.args.from.now c.told.new.into c.args.node c.in-Side.side c.in_ok-id-in-Side.id c.in-Side.ensures.step
    c.in_ok-id-in-Side.ensures.told

pub returns-in_ok-remember-in-Side-clause-told : goal.returns-in_ok-remember-in-Side-clause-told
returns-in_ok-remember-in-Side-clause-told g t c = side_made g t (goal.at.returns-in_ok-remember-in-Side-clause-told g t c).In_ok-id-in-Side

pub returns-in_ok-remember-in-Side-clause-done : goal.returns-in_ok-remember-in-Side-clause-done
returns-in_ok-remember-in-Side-clause-done g t c =
    remembers_told c.args.by.now c.args.from.now c.told.new.into c.told.new.into c.args.node c.in_ok-id-in-Side.id c.told.new.done c.remember-in-Side.new.done
    (λ k u is. is) c.in_ok-id-in-Side.ensures.done
    (side_made g t (goal.at.returns-in_ok-remember-in-Side-clause-done g t c).In_ok-id-in-Side) c.in_ok-remember-in-Side.ensures

-- the choice between both sides is told of the whole
both_made : (g : Over) (t : ℕ) (c : In_ok-id-in-Both g t)
    → IsToldAt c.args.by.now c.args.from.now c.in-Both.yes c.told-in-Both-2.new.into c.in_ok-passed-in-Both.passed
    → IsToldAt c.args.by.now c.args.from.now c.args.node c.where_passed.new.store c.in_ok-id-in-Both.id
both_made g t c yes_told =
    told_both c.args.by.now c.args.from.now c.told-in-Both-2.new.into c.where_passed.new.store c.args.node c.in-Both.yes c.in-Both.no
    c.in_ok-passed-in-Both.passed c.in_ok-failed-in-Both.failed c.in_ok-id-in-Both.id c.in-Both.test c.in-Both.ensures.step
    yes_told c.in_ok-failed-in-Both.ensures.told c.in_ok-id-in-Both.ensures.chooses

pub returns-in_ok-remember-in-Both-clause-told : goal.returns-in_ok-remember-in-Both-clause-told
returns-in_ok-remember-in-Both-clause-told g t c =
    let at = goal.at.returns-in_ok-remember-in-Both-clause-told g t c in
    both_made g t at.In_ok-id-in-Both (left g t at.In_ok-failed-in-Both)

pub returns-in_ok-remember-in-Both-clause-done : goal.returns-in_ok-remember-in-Both-clause-done
returns-in_ok-remember-in-Both-clause-done g t c =
    let at = goal.at.returns-in_ok-remember-in-Both-clause-done g t c in
    remembers_told c.args.by.now c.args.from.now c.told-in-Both-2.new.into c.where_passed.new.store c.args.node c.in_ok-id-in-Both.id
    c.told-in-Both-2.new.done c.remember-in-Both.new.done
    c.where_passed.ensures.keeps c.in_ok-failed-in-Both.ensures.done (both_made g t at.In_ok-id-in-Both (left g t at.In_ok-failed-in-Both))
    c.in_ok-remember-in-Both.ensures
