use Rattle.std.proofs.Common.{ℕ, ◌≡◌, ◌/◌, ◌++◌, length, subst, sym}
use Rattle.pq_store.specs.Store.{Keeps}
use Rattle.pq_store.specs.Tree.Tree.{Tip}
use Rattle.pq_apply.proofs.Kept.{keeps_on}
use Rattle.pq_rewrite.proofs.Halves.{halves_there, none_there}
use Rattle.pq_join.specs.Departing.{DepartsAt}
use Rattle.pq_join.proofs.Departed.{alone_still, both_depart, both_fit, departs_still, knows_still, none_depart}
use Rattle.pq_join.proofs.departures.+departures_of_each.Goals as goal
use Rattle.pq_join.proofs.departures.+departures_of_each.Goals.{After-split_at, In_ok-y-in_default}

pub returns-in_ok-id-in-empty-clause-departs : goal.returns-in_ok-id-in-empty-clause-departs
returns-in_ok-id-in-empty-clause-departs t c =
    subst (λ ws. DepartsAt (Tip ws) c.args.seen.now c.args.root c.nothing.new.into c.in_ok-id-in-empty.id)
    (sym (none_there c.args.list.now c.in-empty.len_below))
    (none_depart c.args.seen.now c.args.root c.nothing.new.into c.in_ok-id-in-empty.id c.requires.root c.in_ok-id-in-empty.ensures.leaf)

pub returns-in_ok-id-in-empty-clause-made : goal.returns-in_ok-id-in-empty-clause-made
returns-in_ok-id-in-empty-clause-made t c =
    knows_still c.args.seen.now c.args.seen.now c.args.root c.args.into.now c.nothing.new.into c.args.made.now
    (λ k u is. is) c.nothing.ensures.keeps c.requires.made

-- both halves, one after another
whole : (t : ℕ) (c : After-split_at t) → c.args.list.now ≡ c.split_at.result.0.now ++ c.split_at.result.1.now
whole t c = halves_there c.args.list.now c.split_at.result.0.now c.split_at.result.1.now
    (length c.args.list.now / 2) c.split_at.ensures.front c.split_at.ensures.back

-- the departures of the first half stay
left : (t : ℕ) (c : In_ok-y-in_default t)
    → DepartsAt (Tip c.split_at.result.0.now) c.departures_of_each-in_default.new.seen c.args.root c.departures_of_each-in_default.new.into
    c.in_ok-x-in_default.x
left t c =
    departs_still (Tip c.split_at.result.0.now) c.departures_of_each.new.seen c.departures_of_each-in_default.new.seen c.args.root c.departures_of_each.new.into
    c.departures_of_each-in_default.new.into c.in_ok-x-in_default.x c.departures_of_each-in_default.ensures.seen
    c.departures_of_each-in_default.ensures.keeps c.in_ok-x-in_default.ensures.departs

-- so does the sight
kept : (t : ℕ) (c : In_ok-y-in_default t) → Keeps c.args.seen.now c.departures_of_each-in_default.new.seen
kept t c =
    keeps_on c.args.seen.now c.departures_of_each.new.seen c.departures_of_each-in_default.new.seen c.departures_of_each.ensures.seen
    c.departures_of_each-in_default.ensures.seen

pub appended-requires-clause-fit : goal.appended-requires-clause-fit
appended-requires-clause-fit t c =
    let at = (goal.at.appended-requires-clause-fit t c).In_ok-y-in_default in
    both_fit c.split_at.result.0.now c.split_at.result.1.now c.departures_of_each-in_default.new.seen c.args.root c.departures_of_each-in_default.new.into
    c.in_ok-x-in_default.x c.in_ok-y-in_default.y (alone_still c.args.seen.now c.departures_of_each-in_default.new.seen c.args.root
    (kept t at) c.requires.root c.requires.fit)
    (left t at) c.in_ok-y-in_default.ensures.departs

pub returns-in_ok-id-in_default-clause-departs : goal.returns-in_ok-id-in_default-clause-departs
returns-in_ok-id-in_default-clause-departs t c =
    let at = goal.at.returns-in_ok-id-in_default-clause-departs t c in
    subst (λ ws. DepartsAt (Tip ws) c.departures_of_each-in_default.new.seen c.args.root c.appended.new.into c.in_ok-id-in_default.id)
    (sym (whole t at.After-split_at))
    (both_depart c.split_at.result.0.now c.split_at.result.1.now c.departures_of_each-in_default.new.seen c.args.root
    c.departures_of_each-in_default.new.into c.appended.new.into
    c.in_ok-x-in_default.x c.in_ok-y-in_default.y c.in_ok-id-in_default.id
    (left t at.In_ok-y-in_default) c.in_ok-y-in_default.ensures.departs c.in_ok-id-in_default.ensures.appends)

pub returns-in_ok-id-in_default-clause-made : goal.returns-in_ok-id-in_default-clause-made
returns-in_ok-id-in_default-clause-made t c =
    knows_still c.departures_of_each-in_default.new.seen c.departures_of_each-in_default.new.seen c.args.root
    c.departures_of_each-in_default.new.into c.appended.new.into
    c.departures_of_each-in_default.new.made (λ k u is. is) c.appended.ensures.keeps c.in_ok-y-in_default.ensures.made
