use Rattle.std.proofs.Common.{◌≡◌, ◌<◌, ℕ, length, arith}
use Rattle.std.proofs.lemmas.Option.{slice_get_within}
use Rattle.pq_apply.specs.Restricting.{IsRestrictedAt}
use Rattle.pq_store.specs.Store.{Keeps}
use Rattle.pq_apply.proofs.Kept.{keeps_on, within_still}
use Rattle.pq_apply.proofs.Restricted.{keep_restricted, side_restricted, side_below, restricted_still, sides_restricted, sides_joinable}
use Rattle.pq_apply.proofs.Restricted.{both_restricted, remembers_restricted}
use Rattle.pq_apply.proofs.restriction.+restricted.Given.{Over}
use Rattle.pq_apply.proofs.restriction.+restricted.Goals as goal
use Rattle.pq_apply.proofs.restriction.+restricted.Goals.{In_ok-new_no-in-Both, In_ok-id-in-Side, In_ok-id-in-Both}

pub restricted-requires : goal.restricted-requires
restricted-requires g t c κs within =
    let below = side_below c.args.field c.args.value c.args.store.now c.args.node c.in-Side.side c.in-Side.ensures.step in
    let whole : c.args.node ≡ t = c.decreases in
    (omega arith, (within, (omega arith, c.requires.done)))

pub restricted-requires-in-Both-2 : goal.restricted-requires-in-Both-2
restricted-requires-in-Both-2 g t c κs within =
    let step = c.in-Both.ensures.step in
    let below = step.0.no_below in
    let whole : c.args.node ≡ t = c.decreases in
    let inside : c.args.node < length c.restricted-in-Both.new.store =
    within_still c.args.store.now c.restricted-in-Both.new.store c.args.node c.restricted-in-Both.ensures.keeps c.requires.node in
    (omega arith, (within, (omega arith, c.in_ok-new_yes-in-Both.ensures.done)))

-- the trees are kept while both sides are restricted
keeps : (g : Over) (t : ℕ) (c : In_ok-new_no-in-Both g t) → Keeps c.args.store.now c.restricted-in-Both-2.new.store
keeps g t c = keeps_on c.args.store.now c.restricted-in-Both.new.store c.restricted-in-Both-2.new.store c.restricted-in-Both.ensures.keeps
    c.restricted-in-Both-2.ensures.keeps

-- the yes side stays restricted
left : (g : Over) (t : ℕ) (c : In_ok-new_no-in-Both g t)
    → IsRestrictedAt c.args.field c.args.value c.restricted-in-Both-2.new.store c.in-Both.yes c.in_ok-new_yes-in-Both.new_yes
left g t c =
    restricted_still c.args.field c.args.value c.restricted-in-Both.new.store c.restricted-in-Both-2.new.store c.in-Both.yes c.in_ok-new_yes-in-Both.new_yes
    c.restricted-in-Both-2.ensures.keeps c.in_ok-new_yes-in-Both.ensures.restricted

pub node-requires-clause-yes : goal.node-requires-clause-yes
node-requires-clause-yes g t c =
    let made = left g t (goal.at.node-requires-clause-yes g t c).In_ok-new_no-in-Both in
    slice_get_within c.restricted-in-Both-2.new.store c.in_ok-new_yes-in-Both.new_yes made.restricted made.restricted_is

pub node-requires-clause-no : goal.node-requires-clause-no
node-requires-clause-no g t c =
    let made = c.in_ok-new_no-in-Both.ensures.restricted in
    slice_get_within c.restricted-in-Both-2.new.store c.in_ok-new_no-in-Both.new_no made.restricted made.restricted_is

pub node-requires-clause-sides : goal.node-requires-clause-sides
node-requires-clause-sides g t c = λ y n y_is n_is.
    let at = (goal.at.node-requires-clause-sides g t c).In_ok-new_no-in-Both in
    let step = c.in-Both.ensures.step in
    let shows = step.0 in
    sides_joinable c.args.field c.args.value c.in-Both.test shows.yes_tree shows.no_tree y n
    (sides_restricted c.args.field c.args.value c.args.store.now c.restricted-in-Both-2.new.store c.args.node c.in-Both.yes c.in-Both.no
    c.in_ok-new_yes-in-Both.new_yes c.in_ok-new_no-in-Both.new_no c.in-Both.test y n c.in-Both.ensures.diagrams (keeps g t at) step
    (left g t at) c.in_ok-new_no-in-Both.ensures.restricted y_is n_is)

pub returns-in-Keep-clause-restricted : goal.returns-in-Keep-clause-restricted
returns-in-Keep-clause-restricted g t c =
    keep_restricted c.args.field c.args.value c.args.store.now c.args.node c.in-Keep.ensures.diagrams c.in-Keep.ensures.step

-- where one side is reached, its restriction is that of the whole
side_made : (g : Over) (t : ℕ) (c : In_ok-id-in-Side g t) → IsRestrictedAt c.args.field c.args.value c.restricted.new.store c.args.node c.in_ok-id-in-Side.id
side_made g t c =
    side_restricted c.args.field c.args.value c.args.store.now c.restricted.new.store c.args.node c.in-Side.side c.in_ok-id-in-Side.id
    c.restricted.ensures.keeps c.in-Side.ensures.step c.in_ok-id-in-Side.ensures.restricted

pub returns-in_ok-remember-in-Side-clause-restricted : goal.returns-in_ok-remember-in-Side-clause-restricted
returns-in_ok-remember-in-Side-clause-restricted g t c = side_made g t (goal.at.returns-in_ok-remember-in-Side-clause-restricted g t c).In_ok-id-in-Side

pub returns-in_ok-remember-in-Side-clause-done : goal.returns-in_ok-remember-in-Side-clause-done
returns-in_ok-remember-in-Side-clause-done g t c =
    remembers_restricted c.args.field c.args.value c.restricted.new.store c.restricted.new.store c.args.node c.in_ok-id-in-Side.id
    c.restricted.new.done c.remember.new.done
    (λ k u is. is) c.in_ok-id-in-Side.ensures.done
    (side_made g t (goal.at.returns-in_ok-remember-in-Side-clause-done g t c).In_ok-id-in-Side) c.in_ok-remember-in-Side.ensures

-- the new node has the restriction of the whole
both_made : (g : Over) (t : ℕ) (c : In_ok-id-in-Both g t) → Keeps c.args.store.now c.restricted-in-Both-2.new.store
    → IsRestrictedAt c.args.field c.args.value c.restricted-in-Both-2.new.store c.in-Both.yes c.in_ok-new_yes-in-Both.new_yes
    → IsRestrictedAt c.args.field c.args.value c.node.new.self c.args.node c.in_ok-id-in-Both.id
both_made g t c kept yes_made =
    both_restricted c.args.field c.args.value c.args.store.now c.restricted-in-Both-2.new.store c.node.new.self c.args.node c.in-Both.yes c.in-Both.no
    c.in_ok-new_yes-in-Both.new_yes c.in_ok-new_no-in-Both.new_no c.in_ok-id-in-Both.id c.in-Both.test c.in-Both.ensures.diagrams kept c.in-Both.ensures.step
    yes_made c.in_ok-new_no-in-Both.ensures.restricted c.in_ok-id-in-Both.ensures.tree c.in_ok-id-in-Both.ensures.value c.node.ensures.keeps

pub returns-in_ok-remember-in-Both-clause-restricted : goal.returns-in_ok-remember-in-Both-clause-restricted
returns-in_ok-remember-in-Both-clause-restricted g t c =
    let at = goal.at.returns-in_ok-remember-in-Both-clause-restricted g t c in
    both_made g t at.In_ok-id-in-Both (keeps g t at.In_ok-new_no-in-Both) (left g t at.In_ok-new_no-in-Both)

pub returns-in_ok-remember-in-Both-clause-done : goal.returns-in_ok-remember-in-Both-clause-done
returns-in_ok-remember-in-Both-clause-done g t c =
    let at = goal.at.returns-in_ok-remember-in-Both-clause-done g t c in
    remembers_restricted c.args.field c.args.value c.restricted-in-Both-2.new.store c.node.new.self c.args.node c.in_ok-id-in-Both.id
    c.restricted-in-Both-2.new.done c.remember-in-Both.new.done
    c.node.ensures.keeps c.in_ok-new_no-in-Both.ensures.done
    (both_made g t at.In_ok-id-in-Both (keeps g t at.In_ok-new_no-in-Both) (left g t at.In_ok-new_no-in-Both)) c.in_ok-remember-in-Both.ensures
