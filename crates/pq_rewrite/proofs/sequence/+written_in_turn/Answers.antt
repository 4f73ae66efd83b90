use Rattle.std.proofs.Common.{ℕ, ◌≡◌, ◌/◌, ◌++◌, length, subst, sym, arith}
use Rattle.pq_store.specs.Store.{HasAt}
use Rattle.pq_rewrite.specs.Sequence.{FitInTurn, IsInTurn, twice}
use Rattle.pq_rewrite.specs.Settled.{IsSettledFrom}
use Rattle.pq_rewrite.proofs.Halves.{halves_there, none_there, one_there}
use Rattle.pq_rewrite.proofs.SettledTrees.{writable_fields}
use Rattle.pq_rewrite.proofs.Standing.{has_still, has_within}
use Rattle.pq_rewrite.proofs.Turns.{none_in_turn, turn_halves_fit, turn_merged, turn_parts}
use Rattle.pq_rewrite.proofs.Twice.{one_in_turn}
use Rattle.pq_rewrite.proofs.sequence.+written_in_turn.Goals as goal
use Rattle.pq_rewrite.proofs.sequence.+written_in_turn.Goals.{After-split_at, In_ok-y-in_default}

pub returns-in_ok-id-in-empty-clause-in_turn : goal.returns-in_ok-id-in-empty-clause-in_turn
returns-in_ok-id-in-empty-clause-in_turn t c =
    subst (λ vs. HasAt (IsInTurn c.args.first.now vs) c.nothing.new.store c.in_ok-id-in-empty.id) (sym (none_there c.args.second.now c.in-empty.len_below))
    (_, c.in_ok-id-in-empty.ensures.leaf, none_in_turn c.args.first.now)

pub returns-in_ok-id-in-len1-clause-in_turn : goal.returns-in_ok-id-in-len1-clause-in_turn
returns-in_ok-id-in-len1-clause-in_turn t c =
    let w = c.args.first.now in
    let v = c.writes-item.result in
    let one = one_there c.args.second.now v c.in-len1.len_below c.in-len1.len_at_least c.writes-item.is in
    let made : HasAt (IsSettledFrom writable_fields c.twice-twice.result c.once-once.result) c.settled_from.new.store c.in_ok-id-in-len1.id
    = c.in_ok-id-in-len1.ensures.settled in
    let from = subst (λ o. IsSettledFrom writable_fields (twice w v) o made.0) c.once-once.ensures.once
    (subst (λ b. IsSettledFrom writable_fields b c.once-once.result made.0) c.twice-twice.ensures made.2) in
    (made.0, made.1, subst (λ vs. IsInTurn w vs made.0) (sym one) (one_in_turn w v made.0 c.once-once.ensures.fit.0 c.once-once.ensures.fit.1 from))

-- both halves, one after another
whole : (t : ℕ) (c : After-split_at t) → c.args.second.now ≡ c.split_at.result.0.now ++ c.split_at.result.1.now
whole t c = halves_there c.args.second.now c.split_at.result.0.now c.split_at.result.1.now
    (length c.args.second.now / 2) c.split_at.ensures.front c.split_at.ensures.back

-- they may come in turn
parts : (t : ℕ) (c : After-split_at t) → FitInTurn c.split_at.result.0.now × FitInTurn c.split_at.result.1.now
parts t c = turn_parts c.split_at.result.0.now c.split_at.result.1.now (subst FitInTurn (whole t c) c.requires.fit)

pub written_in_turn-requires : goal.written_in_turn-requires
written_in_turn-requires t c =
    let at = (goal.at.written_in_turn-requires t c).After-split_at in
    let whole : length c.args.second.now ≡ t = c.decreases in
    (omega (arith, whole, c.split_at.ensures.front_len, c.in_default.len_at_least), (parts t at).0)

pub written_in_turn-requires-in_default : goal.written_in_turn-requires-in_default
written_in_turn-requires-in_default t c =
    let at = (goal.at.written_in_turn-requires-in_default t c).After-split_at in
    let whole : length c.args.second.now ≡ t = c.decreases in
    (omega (arith, whole, c.split_at.ensures.back_len, c.in_default.len_at_least), (parts t at).1)

-- the tree of the first half stays
left : (t : ℕ) (c : In_ok-y-in_default t)
    → HasAt (IsInTurn c.args.first.now c.split_at.result.0.now) c.written_in_turn-in_default.new.store c.in_ok-x-in_default.x
left t c =
    has_still (IsInTurn c.args.first.now c.split_at.result.0.now) c.written_in_turn.new.store c.written_in_turn-in_default.new.store c.in_ok-x-in_default.x
    c.written_in_turn-in_default.ensures.keeps c.in_ok-x-in_default.ensures.in_turn

pub united-requires-clause-x : goal.united-requires-clause-x
united-requires-clause-x t c =
    has_within (IsInTurn c.args.first.now c.split_at.result.0.now) c.written_in_turn-in_default.new.store c.in_ok-x-in_default.x
    (left t (goal.at.united-requires-clause-x t c).In_ok-y-in_default)

pub united-requires-clause-y : goal.united-requires-clause-y
united-requires-clause-y t c =
    has_within (IsInTurn c.args.first.now c.split_at.result.1.now) c.written_in_turn-in_default.new.store c.in_ok-y-in_default.y
    c.in_ok-y-in_default.ensures.in_turn

pub united-requires-clause-fit : goal.united-requires-clause-fit
united-requires-clause-fit t c =
    let at = goal.at.united-requires-clause-fit t c in
    turn_halves_fit c.args.first.now c.split_at.result.0.now c.split_at.result.1.now c.written_in_turn-in_default.new.store
    c.in_ok-x-in_default.x c.in_ok-y-in_default.y
    (left t at.In_ok-y-in_default) c.in_ok-y-in_default.ensures.in_turn (subst FitInTurn (whole t at.After-split_at) c.requires.fit)

pub returns-in_ok-id-in_default-clause-in_turn : goal.returns-in_ok-id-in_default-clause-in_turn
returns-in_ok-id-in_default-clause-in_turn t c =
    let at = goal.at.returns-in_ok-id-in_default-clause-in_turn t c in
    subst (λ vs. HasAt (IsInTurn c.args.first.now vs) c.united.new.store c.in_ok-id-in_default.id) (sym (whole t at.After-split_at))
    (turn_merged c.args.first.now c.split_at.result.0.now c.split_at.result.1.now c.written_in_turn-in_default.new.store
    c.in_ok-x-in_default.x c.in_ok-y-in_default.y
    (left t at.In_ok-y-in_default) c.in_ok-y-in_default.ensures.in_turn c.united.new.store c.in_ok-id-in_default.id c.in_ok-id-in_default.ensures.merges)
