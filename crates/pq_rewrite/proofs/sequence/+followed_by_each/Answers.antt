use Rattle.std.proofs.Common.{ℕ, ◌≡◌, ◌/◌, ◌++◌, length, subst, sym, arith}
use Rattle.pq_apply.proofs.Kept.{within_still}
use Rattle.pq_rewrite.specs.Sequence.{FitAsFollowedEachAt, FollowsEachAt}
use Rattle.pq_rewrite.proofs.FollowedEach.{back_before, each_before, each_merged, each_still, front_before, halves_meet, halves_within}
use Rattle.pq_rewrite.proofs.FollowedEach.{none_followed, one_before, one_followed}
use Rattle.pq_rewrite.proofs.Following.{moved_still}
use Rattle.pq_rewrite.proofs.Halves.{halves_there, none_there, one_there}
use Rattle.pq_rewrite.proofs.sequence.+followed_by_each.Goals as goal
use Rattle.pq_rewrite.proofs.sequence.+followed_by_each.Goals.{After-split_at, In_ok-y-in_default}

pub returns-in_ok-id-in-empty-clause-follows : goal.returns-in_ok-id-in-empty-clause-follows
returns-in_ok-id-in-empty-clause-follows t c =
    subst (λ vs. FollowsEachAt vs c.args.store.now c.args.node c.nothing.new.store c.in_ok-id-in-empty.id)
    (sym (none_there c.args.first.now c.in-empty.len_below))
    (none_followed c.args.store.now c.nothing.new.store c.args.node c.in_ok-id-in-empty.id c.in_ok-id-in-empty.ensures.leaf)

pub returns-in_ok-id-in-empty-clause-moved : goal.returns-in_ok-id-in-empty-clause-moved
returns-in_ok-id-in-empty-clause-moved t c = moved_still c.args.store.now c.nothing.new.store c.args.moved.now c.nothing.ensures.keeps c.requires.moved

pub followed-requires-clause-fit : goal.followed-requires-clause-fit
followed-requires-clause-fit t c =
    one_before c.writes-item.result c.args.store.now c.args.node
    (subst (λ vs. FitAsFollowedEachAt vs c.args.store.now c.args.node)
    (one_there c.args.first.now c.writes-item.result c.in-len1.len_below c.in-len1.len_at_least c.writes-item.is) c.requires.fit)

pub returns-in_ok-id-in-len1-clause-follows : goal.returns-in_ok-id-in-len1-clause-follows
returns-in_ok-id-in-len1-clause-follows t c =
    subst (λ vs. FollowsEachAt vs c.args.store.now c.args.node c.followed.new.store c.in_ok-id-in-len1.id)
    (sym (one_there c.args.first.now c.writes-item.result c.in-len1.len_below c.in-len1.len_at_least c.writes-item.is))
    (one_followed c.writes-item.result c.args.store.now c.followed.new.store c.args.node c.in_ok-id-in-len1.id c.followed.ensures.keeps
    c.in_ok-id-in-len1.ensures.followed)

-- both halves, one after another
whole : (t : ℕ) (c : After-split_at t) → c.args.first.now ≡ c.split_at.result.0.now ++ c.split_at.result.1.now
whole t c = halves_there c.args.first.now c.split_at.result.0.now c.split_at.result.1.now
    (length c.args.first.now / 2) c.split_at.ensures.front c.split_at.ensures.back

-- they may come before the tree
fits : (t : ℕ) (c : After-split_at t) → FitAsFollowedEachAt (c.split_at.result.0.now ++ c.split_at.result.1.now) c.args.store.now c.args.node
fits t c = subst (λ vs. FitAsFollowedEachAt vs c.args.store.now c.args.node) (whole t c) c.requires.fit

pub followed_by_each-requires : goal.followed_by_each-requires
followed_by_each-requires t c =
    let at = (goal.at.followed_by_each-requires t c).After-split_at in
    let whole : length c.args.first.now ≡ t = c.decreases in (
      omega (arith, whole, c.split_at.ensures.front_len, c.in_default.len_at_least),
      (
        c.requires.node,
        (
          front_before c.split_at.result.0.now c.split_at.result.1.now c.args.store.now c.args.store.now c.args.node c.requires.node
              (λ k u is. is) (fits t at),
          c.requires.moved,
        ),
      ),
    )

pub followed_by_each-requires-in_default : goal.followed_by_each-requires-in_default
followed_by_each-requires-in_default t c =
    let at = (goal.at.followed_by_each-requires-in_default t c).After-split_at in
    let whole : length c.args.first.now ≡ t = c.decreases in
    let kept = c.followed_by_each.ensures.keeps in (
      omega (arith, whole, c.split_at.ensures.back_len, c.in_default.len_at_least),
      (
        within_still c.args.store.now c.followed_by_each.new.store c.args.node kept c.requires.node,
        (
          back_before c.split_at.result.0.now c.split_at.result.1.now c.args.store.now c.followed_by_each.new.store c.args.node
              c.requires.node kept (fits t at),
          c.in_ok-x-in_default.ensures.moved,
        ),
      ),
    )

-- the tree of the first half stays
left : (t : ℕ) (c : In_ok-y-in_default t)
    → FollowsEachAt c.split_at.result.0.now c.args.store.now c.args.node c.followed_by_each-in_default.new.store c.in_ok-x-in_default.x
left t c =
    each_still c.split_at.result.0.now c.args.store.now c.followed_by_each.new.store c.followed_by_each-in_default.new.store c.args.node c.in_ok-x-in_default.x
    c.followed_by_each-in_default.ensures.keeps c.in_ok-x-in_default.ensures.follows

-- and that of the second is one in the store before both
right : (t : ℕ) (c : In_ok-y-in_default t)
    → FollowsEachAt c.split_at.result.1.now c.args.store.now c.args.node c.followed_by_each-in_default.new.store c.in_ok-y-in_default.y
right t c =
    each_before c.split_at.result.1.now c.args.store.now c.followed_by_each.new.store c.followed_by_each-in_default.new.store c.args.node c.in_ok-y-in_default.y
    c.followed_by_each.ensures.keeps c.in_ok-y-in_default.ensures.follows

pub united-requires-clause-x : goal.united-requires-clause-x
united-requires-clause-x t c =
    let at = (goal.at.united-requires-clause-x t c).In_ok-y-in_default in
    (halves_within c.split_at.result.0.now c.split_at.result.1.now c.args.store.now c.followed_by_each-in_default.new.store c.args.node
    c.in_ok-x-in_default.x c.in_ok-y-in_default.y
    c.requires.node (left t at) (right t at)).0

pub united-requires-clause-y : goal.united-requires-clause-y
united-requires-clause-y t c =
    let at = (goal.at.united-requires-clause-y t c).In_ok-y-in_default in
    (halves_within c.split_at.result.0.now c.split_at.result.1.now c.args.store.now c.followed_by_each-in_default.new.store c.args.node
    c.in_ok-x-in_default.x c.in_ok-y-in_default.y
    c.requires.node (left t at) (right t at)).1

pub united-requires-clause-fit : goal.united-requires-clause-fit
united-requires-clause-fit t c =
    let at = goal.at.united-requires-clause-fit t c in
    halves_meet c.split_at.result.0.now c.split_at.result.1.now c.args.store.now c.followed_by_each-in_default.new.store c.args.node
    c.in_ok-x-in_default.x c.in_ok-y-in_default.y
    c.requires.node (left t at.In_ok-y-in_default) (right t at.In_ok-y-in_default) (fits t at.After-split_at)

pub returns-in_ok-id-in_default-clause-follows : goal.returns-in_ok-id-in_default-clause-follows
returns-in_ok-id-in_default-clause-follows t c =
    let at = goal.at.returns-in_ok-id-in_default-clause-follows t c in
    subst (λ vs. FollowsEachAt vs c.args.store.now c.args.node c.united.new.store c.in_ok-id-in_default.id) (sym (whole t at.After-split_at))
    (each_merged c.split_at.result.0.now c.split_at.result.1.now c.args.store.now c.followed_by_each-in_default.new.store c.args.node
    c.in_ok-x-in_default.x c.in_ok-y-in_default.y
    c.requires.node (left t at.In_ok-y-in_default) (right t at.In_ok-y-in_default) c.united.new.store c.in_ok-id-in_default.id
    c.in_ok-id-in_default.ensures.merges)

pub returns-in_ok-id-in_default-clause-moved : goal.returns-in_ok-id-in_default-clause-moved
returns-in_ok-id-in_default-clause-moved t c =
    moved_still c.followed_by_each-in_default.new.store c.united.new.store c.followed_by_each-in_default.new.moved c.united.ensures.keeps
    c.in_ok-y-in_default.ensures.moved
