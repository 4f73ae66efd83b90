use Rattle.std.proofs.Common.{ℕ, ◌≡◌, ◌∙◌, sym, subst, arith}
use Rattle.std.proofs.lemmas.Option.{slice_get_within}
use Rattle.pq_fields.specs.declared.field.Field.TheVariants.{Port}
use Rattle.pq_store.specs.Store.{Keeps}
use Rattle.pq_store.specs.Tree.Tree.{Fork, Tip}
use Rattle.pq_apply.proofs.Kept.{keeps_on, within_still}
use Rattle.pq_join.specs.Departing.{DepartsAt, DepartsFromAt}
use Rattle.pq_join.proofs.Departed.{fork_departs, from_more, from_still, from_within, knows_still, leaf_departs, no_fits, sides_choose}
use Rattle.pq_join.proofs.Departed.{sight_alone, starts_still, yes_fits}
use Rattle.pq_join.proofs.departures.+departures.Goals as goal
use Rattle.pq_join.proofs.departures.+departures.Goals.{In_ok-failed-in-Node, In_ok-id-in-Leaf, In_ok-id-in-Node}

pub returns-in-Some-clause-departs : goal.returns-in-Some-clause-departs
returns-in-Some-clause-departs t c u u_is = c.requires.done c.args.node c.in-Some.id (sym c.recall.ensures ∙ c.in-Some.is) u u_is

pub departures_of_each-requires-clause-fit : goal.departures_of_each-requires-clause-fit
departures_of_each-requires-clause-fit t c = sight_alone c.args.seen.now c.args.root c.args.forward.now c.args.node c.requires.node c.requires.fit

pub departures-requires : goal.departures-requires
departures-requires t c =
    let shows = c.in-Node.ensures.shows in
    let below = shows.yes_below in
    let whole : c.args.node ≡ t = c.decreases in
    let within = slice_get_within c.args.forward.now c.in-Node.yes shows.yes_tree shows.yes_is in
    let fits = yes_fits c.args.forward.now c.args.node c.in-Node.yes c.in-Node.no c.in-Node.test shows c.args.seen.now c.args.seen.now
    c.args.root (λ k u is. is) c.requires.root c.requires.fit in
    (omega arith, (c.requires.root, (c.requires.first, (within, (fits, (c.requires.made, c.requires.done))))))

pub departures-requires-in-Node : goal.departures-requires-in-Node
departures-requires-in-Node t c =
    let shows = c.in-Node.ensures.shows in
    let below = shows.no_below in
    let whole : c.args.node ≡ t = c.decreases in
    let kept = c.departures.ensures.seen in
    let within = slice_get_within c.args.forward.now c.in-Node.no shows.no_tree shows.no_is in
    let inside = within_still c.args.seen.now c.departures.new.seen c.args.root kept c.requires.root in
    let starts = starts_still Port c.args.seen.now c.departures.new.seen c.args.root kept c.requires.root c.requires.first in
    let fits = no_fits c.args.forward.now c.args.node c.in-Node.yes c.in-Node.no c.in-Node.test shows c.args.seen.now c.departures.new.seen
    c.args.root kept c.requires.root c.requires.fit in
    (omega arith, (inside, (starts, (within, (fits, (c.in_ok-passed-in-Node.ensures.made, c.in_ok-passed-in-Node.ensures.done))))))

-- the sight stays
kept : (t : ℕ) (c : In_ok-failed-in-Node t) → Keeps c.args.seen.now c.departures-in-Node.new.seen
kept t c = keeps_on c.args.seen.now c.departures.new.seen c.departures-in-Node.new.seen c.departures.ensures.seen c.departures-in-Node.ensures.seen

-- so do the departures of the yes side
left : (t : ℕ) (c : In_ok-failed-in-Node t)
    → DepartsFromAt c.args.forward.now c.in-Node.yes c.departures-in-Node.new.seen c.args.root c.departures-in-Node.new.into
    c.in_ok-passed-in-Node.passed
left t c =
    from_still c.args.forward.now c.departures.new.seen c.departures-in-Node.new.seen c.args.root c.departures.new.into
    c.departures-in-Node.new.into c.in-Node.yes c.in_ok-passed-in-Node.passed
    c.departures-in-Node.ensures.seen c.departures-in-Node.ensures.keeps c.in_ok-passed-in-Node.ensures.departs

pub where_passed-requires-clause-lawful : goal.where_passed-requires-clause-lawful
where_passed-requires-clause-lawful t c =
    let shows = c.in-Node.ensures.shows in
    (c.in-Node.ensures.diagrams c.args.node (Fork c.in-Node.test shows.yes_tree shows.no_tree) shows.is).lawful.0

pub where_passed-requires-clause-yes : goal.where_passed-requires-clause-yes
where_passed-requires-clause-yes t c =
    let shows = c.in-Node.ensures.shows in
    let at = (goal.at.where_passed-requires-clause-yes t c).In_ok-failed-in-Node in
    from_within c.args.forward.now c.in-Node.yes c.departures-in-Node.new.seen c.args.root c.departures-in-Node.new.into c.in_ok-passed-in-Node.passed
    (slice_get_within c.args.forward.now c.in-Node.yes shows.yes_tree shows.yes_is) (left t at)

pub where_passed-requires-clause-no : goal.where_passed-requires-clause-no
where_passed-requires-clause-no t c =
    let shows = c.in-Node.ensures.shows in
    from_within c.args.forward.now c.in-Node.no c.departures-in-Node.new.seen c.args.root c.departures-in-Node.new.into c.in_ok-failed-in-Node.failed
    (slice_get_within c.args.forward.now c.in-Node.no shows.no_tree shows.no_is) c.in_ok-failed-in-Node.ensures.departs

pub where_passed-requires-clause-fit : goal.where_passed-requires-clause-fit
where_passed-requires-clause-fit t c =
    let at = (goal.at.where_passed-requires-clause-fit t c).In_ok-failed-in-Node in
    sides_choose c.args.forward.now c.args.node c.in-Node.yes c.in-Node.no c.in-Node.test c.in-Node.ensures.shows
    c.departures-in-Node.new.seen c.args.seen.now c.args.root
    c.departures-in-Node.new.into c.in_ok-passed-in-Node.passed c.in_ok-failed-in-Node.failed
    (left t at) c.in_ok-failed-in-Node.ensures.departs (kept t at) c.requires.root c.requires.fit

-- the departures at a leaf
leaf_made : (t : ℕ) (c : In_ok-id-in-Leaf t)
    → DepartsFromAt c.args.forward.now c.args.node c.departures_of_each.new.seen c.args.root c.departures_of_each.new.into
    c.in_ok-id-in-Leaf.id
leaf_made t c =
    leaf_departs c.args.forward.now c.args.node c.in-Leaf.set.now c.departures_of_each.new.seen c.args.root c.departures_of_each.new.into
    c.in_ok-id-in-Leaf.id c.in-Leaf.ensures.shows
    (subst (λ ws. DepartsAt (Tip ws) c.departures_of_each.new.seen c.args.root c.departures_of_each.new.into c.in_ok-id-in-Leaf.id)
    c.list.ensures.list c.in_ok-id-in-Leaf.ensures.departs)

pub returns-in_ok-remember-in-Leaf-clause-departs : goal.returns-in_ok-remember-in-Leaf-clause-departs
returns-in_ok-remember-in-Leaf-clause-departs t c = leaf_made t (goal.at.returns-in_ok-remember-in-Leaf-clause-departs t c).In_ok-id-in-Leaf

pub returns-in_ok-remember-in-Leaf-clause-done : goal.returns-in_ok-remember-in-Leaf-clause-done
returns-in_ok-remember-in-Leaf-clause-done t c =
    from_more c.args.forward.now c.args.seen.now c.departures_of_each.new.seen c.args.root c.args.into.now c.departures_of_each.new.into
    c.args.node c.in_ok-id-in-Leaf.id
    c.args.done.now c.remember.new.done c.departures_of_each.ensures.seen c.departures_of_each.ensures.keeps c.requires.done
    (leaf_made t (goal.at.returns-in_ok-remember-in-Leaf-clause-done t c).In_ok-id-in-Leaf) c.in_ok-remember-in-Leaf.ensures

-- the departures at a node
both_made : (t : ℕ) (c : In_ok-id-in-Node t)
    → DepartsFromAt c.args.forward.now c.in-Node.yes c.departures-in-Node.new.seen c.args.root c.departures-in-Node.new.into
    c.in_ok-passed-in-Node.passed
    → DepartsFromAt c.args.forward.now c.args.node c.departures-in-Node.new.seen c.args.root c.where_passed.new.store c.in_ok-id-in-Node.id
both_made t c yes_made =
    fork_departs c.args.forward.now c.args.node c.in-Node.yes c.in-Node.no c.in-Node.test c.in-Node.ensures.shows
    c.departures-in-Node.new.seen c.args.seen.now c.args.root
    c.departures-in-Node.new.into c.in_ok-passed-in-Node.passed c.in_ok-failed-in-Node.failed yes_made c.in_ok-failed-in-Node.ensures.departs
    c.where_passed.new.store c.in_ok-id-in-Node.id c.in_ok-id-in-Node.ensures.chooses

pub returns-in_ok-remember-in-Node-clause-departs : goal.returns-in_ok-remember-in-Node-clause-departs
returns-in_ok-remember-in-Node-clause-departs t c =
    let at = goal.at.returns-in_ok-remember-in-Node-clause-departs t c in both_made t at.In_ok-id-in-Node (left t at.In_ok-failed-in-Node)

pub returns-in_ok-remember-in-Node-clause-made : goal.returns-in_ok-remember-in-Node-clause-made
returns-in_ok-remember-in-Node-clause-made t c =
    knows_still c.departures-in-Node.new.seen c.departures-in-Node.new.seen c.args.root c.departures-in-Node.new.into
    c.where_passed.new.store c.departures-in-Node.new.made
    (λ k u is. is) c.where_passed.ensures.keeps c.in_ok-failed-in-Node.ensures.made

pub returns-in_ok-remember-in-Node-clause-done : goal.returns-in_ok-remember-in-Node-clause-done
returns-in_ok-remember-in-Node-clause-done t c =
    let at = goal.at.returns-in_ok-remember-in-Node-clause-done t c in
    from_more c.args.forward.now c.departures-in-Node.new.seen c.departures-in-Node.new.seen c.args.root c.departures-in-Node.new.into
    c.where_passed.new.store c.args.node c.in_ok-id-in-Node.id
    c.departures-in-Node.new.done c.remember-in-Node.new.done (λ k u is. is) c.where_passed.ensures.keeps c.in_ok-failed-in-Node.ensures.done
    (both_made t at.In_ok-id-in-Node (left t at.In_ok-failed-in-Node)) c.in_ok-remember-in-Node.ensures
