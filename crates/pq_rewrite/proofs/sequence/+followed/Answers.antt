use Rattle.std.proofs.Common.{◌≡◌, ◌∙◌, ℕ, subst, sym, arith}
use Rattle.std.proofs.lemmas.Option.{slice_get_within}
use Rattle.pq_fields.proofs.Places.{same_writes}
use Rattle.pq_store.specs.Store.{HasAt, Keeps}
use Rattle.pq_store.specs.Tree.Tree.{Fork}
use Rattle.pq_lists.proofs.Places.{at_place}
use Rattle.pq_apply.proofs.Kept.{keeps_on}
use Rattle.pq_rewrite.specs.Sequence.{FitInTurn, IsFollowedAt, IsInTurn}
use Rattle.pq_rewrite.proofs.Following.{IsSideReached, both_fit, chosen_followed, followed_still, itself_followed, leaf_fits, leaf_followed}
use Rattle.pq_rewrite.proofs.Following.{moved_more, no_side_fits, reached, reached_followed, side_fits, yes_side_fits}
use Rattle.pq_rewrite.proofs.sequence.+followed.Goals as goal
use Rattle.pq_rewrite.proofs.sequence.+followed.Goals.{In_ok-failed-in-Both, In_ok-id-in-Both, In_ok-id-in-Leaf, In_ok-id-in-Side, In-Side, After-deref}

pub returns-then-eq-clause-followed : goal.returns-then-eq-clause-followed
returns-then-eq-clause-followed t c =
    let tree = at_place c.args.store.now c.args.node c.requires.node in
    let none = (same_writes c.args.by.now c.none.result).0 (sym c.eq.ensures ∙ c.if-eq.true) ∙ c.none.ensures in
    itself_followed c.args.by.now c.args.store.now c.args.node tree.0 none tree.1

pub returns-in-Some-clause-followed : goal.returns-in-Some-clause-followed
returns-in-Some-clause-followed t c = c.requires.moved (c.args.by.now, c.args.node) c.in-Some.id (sym c.recall.ensures ∙ c.in-Some.is)

-- the writes at the leaf
second : (t : ℕ) (c : After-deref t) → c.deref.result.now ≡ c.in-Leaf.set.now
second t c = c.deref.ensures.value ∙ (c.in_ok-second-in-Leaf.ensures.items ∙ c.list.ensures.list)

pub written_in_turn-requires : goal.written_in_turn-requires
written_in_turn-requires t c = record {
  fit = subst FitInTurn (sym (second t c)) (leaf_fits c.args.by.now c.args.store.now c.args.node c.in-Leaf.set.now c.in-Leaf.ensures.step c.requires.fit);
}

-- the side that is reached
side : (t : ℕ) (c : In-Side t) → IsSideReached c.args.by.now c.args.store.now c.args.node c.in-Side.side
side t c = reached c.args.by.now c.args.store.now c.args.node c.in-Side.side c.in-Side.ensures.step

pub followed-requires : goal.followed-requires
followed-requires t c =
    let it = side t (goal.at.followed-requires t c).In-Side in
    let below = it.below in
    let whole : c.args.node ≡ t = c.decreases in
    let within = slice_get_within c.args.store.now c.in-Side.side _ it.side_is in
    (omega arith, (within, (side_fits c.args.by.now c.args.store.now c.args.node c.in-Side.side it c.requires.fit, c.requires.moved)))

pub followed-requires-in-Both : goal.followed-requires-in-Both
followed-requires-in-Both t c =
    let shows = c.in-Both.ensures.step in
    let below = shows.yes_below in
    let whole : c.args.node ≡ t = c.decreases in
    let within = slice_get_within c.args.store.now c.in-Both.yes shows.yes_tree shows.yes_is in
    let fits = yes_side_fits c.args.by.now c.args.store.now c.args.store.now c.args.node c.in-Both.yes c.in-Both.no c.in-Both.test
    (λ k u is. is) shows c.requires.fit in
    (omega arith, (within, (fits, c.requires.moved)))

pub followed-requires-in-Both-2 : goal.followed-requires-in-Both-2
followed-requires-in-Both-2 t c =
    let shows = c.in-Both.ensures.step in
    let below = shows.no_below in
    let whole : c.args.node ≡ t = c.decreases in
    let kept = c.followed-in-Both.ensures.keeps in
    let within = slice_get_within c.followed-in-Both.new.store c.in-Both.no shows.no_tree (kept c.in-Both.no shows.no_tree shows.no_is) in
    let fits = no_side_fits c.args.by.now c.args.store.now c.followed-in-Both.new.store c.args.node c.in-Both.yes c.in-Both.no
    c.in-Both.test kept shows c.requires.fit in
    (omega arith, (within, (fits, c.in_ok-passed-in-Both.ensures.moved)))

-- the trees are kept while both sides are followed
keeps : (t : ℕ) (c : In_ok-failed-in-Both t) → Keeps c.args.store.now c.followed-in-Both-2.new.store
keeps t c = keeps_on c.args.store.now c.followed-in-Both.new.store c.followed-in-Both-2.new.store c.followed-in-Both.ensures.keeps
    c.followed-in-Both-2.ensures.keeps

-- what follows on the yes side stays
left : (t : ℕ) (c : In_ok-failed-in-Both t) → IsFollowedAt c.args.by.now c.followed-in-Both-2.new.store c.in-Both.yes c.in_ok-passed-in-Both.passed
left t c =
    followed_still c.args.by.now c.followed-in-Both.new.store c.followed-in-Both-2.new.store c.in-Both.yes c.in_ok-passed-in-Both.passed
    c.followed-in-Both-2.ensures.keeps
    c.in_ok-passed-in-Both.ensures.followed

pub where_passed-requires-clause-lawful : goal.where_passed-requires-clause-lawful
where_passed-requires-clause-lawful t c =
    let shows = c.in-Both.ensures.step in
    (c.in-Both.ensures.diagrams c.args.node (Fork c.in-Both.test shows.yes_tree shows.no_tree) shows.is).lawful.0

pub where_passed-requires-clause-yes : goal.where_passed-requires-clause-yes
where_passed-requires-clause-yes t c =
    let made = left t (goal.at.where_passed-requires-clause-yes t c).In_ok-failed-in-Both in
    slice_get_within c.followed-in-Both-2.new.store c.in_ok-passed-in-Both.passed made.followed made.followed_is

pub where_passed-requires-clause-no : goal.where_passed-requires-clause-no
where_passed-requires-clause-no t c =
    let made = c.in_ok-failed-in-Both.ensures.followed in
    slice_get_within c.followed-in-Both-2.new.store c.in_ok-failed-in-Both.failed made.followed made.followed_is

pub where_passed-requires-clause-fit : goal.where_passed-requires-clause-fit
where_passed-requires-clause-fit t c =
    let at = (goal.at.where_passed-requires-clause-fit t c).In_ok-failed-in-Both in
    both_fit c.args.by.now c.args.store.now c.followed-in-Both-2.new.store c.args.node c.in-Both.yes c.in-Both.no
    c.in_ok-passed-in-Both.passed c.in_ok-failed-in-Both.failed
    c.in-Both.test (keeps t at) c.in-Both.ensures.step (left t at) c.in_ok-failed-in-Both.ensures.followed c.requires.fit

-- what follows at the leaf
leaf_made : (t : ℕ) (c : In_ok-id-in-Leaf t) → c.deref.result.now ≡ c.in-Leaf.set.now
    → IsFollowedAt c.args.by.now c.written_in_turn.new.store c.args.node c.in_ok-id-in-Leaf.id
leaf_made t c same =
    leaf_followed c.args.by.now c.args.store.now c.written_in_turn.new.store c.args.node c.in_ok-id-in-Leaf.id c.in-Leaf.set.now
    c.written_in_turn.ensures.keeps c.in-Leaf.ensures.step
    (subst (λ vs. HasAt (IsInTurn c.args.by.now vs) c.written_in_turn.new.store c.in_ok-id-in-Leaf.id) same c.in_ok-id-in-Leaf.ensures.in_turn)

pub returns-in_ok-remember-in-Leaf-clause-followed : goal.returns-in_ok-remember-in-Leaf-clause-followed
returns-in_ok-remember-in-Leaf-clause-followed t c =
    let at = goal.at.returns-in_ok-remember-in-Leaf-clause-followed t c in leaf_made t at.In_ok-id-in-Leaf (second t at.After-deref)

pub returns-in_ok-remember-in-Leaf-clause-moved : goal.returns-in_ok-remember-in-Leaf-clause-moved
returns-in_ok-remember-in-Leaf-clause-moved t c =
    let at = goal.at.returns-in_ok-remember-in-Leaf-clause-moved t c in
    moved_more c.args.by.now c.args.store.now c.written_in_turn.new.store c.args.node c.in_ok-id-in-Leaf.id c.args.moved.now
    c.remember.new.done c.written_in_turn.ensures.keeps
    c.requires.moved (leaf_made t at.In_ok-id-in-Leaf (second t at.After-deref)) c.in_ok-remember-in-Leaf.ensures

-- where one side is reached, what follows there follows on the whole
side_made : (t : ℕ) (c : In_ok-id-in-Side t) → IsSideReached c.args.by.now c.args.store.now c.args.node c.in-Side.side
    → IsFollowedAt c.args.by.now c.followed.new.store c.args.node c.in_ok-id-in-Side.id
side_made t c it =
    reached_followed c.args.by.now c.args.store.now c.followed.new.store c.args.node c.in-Side.side c.in_ok-id-in-Side.id
    c.followed.ensures.keeps it c.in_ok-id-in-Side.ensures.followed

pub returns-in_ok-remember-in-Side-clause-followed : goal.returns-in_ok-remember-in-Side-clause-followed
returns-in_ok-remember-in-Side-clause-followed t c =
    let at = goal.at.returns-in_ok-remember-in-Side-clause-followed t c in side_made t at.In_ok-id-in-Side (side t at.In-Side)

pub returns-in_ok-remember-in-Side-clause-moved : goal.returns-in_ok-remember-in-Side-clause-moved
returns-in_ok-remember-in-Side-clause-moved t c =
    let at = goal.at.returns-in_ok-remember-in-Side-clause-moved t c in
    moved_more c.args.by.now c.followed.new.store c.followed.new.store c.args.node c.in_ok-id-in-Side.id c.followed.new.moved
    c.remember-in-Side.new.done (λ k u is. is)
    c.in_ok-id-in-Side.ensures.moved (side_made t at.In_ok-id-in-Side (side t at.In-Side)) c.in_ok-remember-in-Side.ensures

-- the choice between what follows on the sides follows on the whole
both_made : (t : ℕ) (c : In_ok-id-in-Both t) → Keeps c.args.store.now c.followed-in-Both-2.new.store
    → IsFollowedAt c.args.by.now c.followed-in-Both-2.new.store c.in-Both.yes c.in_ok-passed-in-Both.passed
    → IsFollowedAt c.args.by.now c.where_passed.new.store c.args.node c.in_ok-id-in-Both.id
both_made t c kept yes_made =
    chosen_followed c.args.by.now c.args.store.now c.followed-in-Both-2.new.store c.args.node c.in-Both.yes c.in-Both.no
    c.in_ok-passed-in-Both.passed c.in_ok-failed-in-Both.failed
    c.in-Both.test kept c.in-Both.ensures.step yes_made c.in_ok-failed-in-Both.ensures.followed c.where_passed.new.store
    c.in_ok-id-in-Both.id c.where_passed.ensures.keeps
    c.in_ok-id-in-Both.ensures.chooses

pub returns-in_ok-remember-in-Both-clause-followed : goal.returns-in_ok-remember-in-Both-clause-followed
returns-in_ok-remember-in-Both-clause-followed t c =
    let at = goal.at.returns-in_ok-remember-in-Both-clause-followed t c in
    both_made t at.In_ok-id-in-Both (keeps t at.In_ok-failed-in-Both) (left t at.In_ok-failed-in-Both)

pub returns-in_ok-remember-in-Both-clause-moved : goal.returns-in_ok-remember-in-Both-clause-moved
returns-in_ok-remember-in-Both-clause-moved t c =
    let at = goal.at.returns-in_ok-remember-in-Both-clause-moved t c in
    moved_more c.args.by.now c.followed-in-Both-2.new.store c.where_passed.new.store c.args.node c.in_ok-id-in-Both.id
    c.followed-in-Both-2.new.moved c.remember-in-Both.new.done
    c.where_passed.ensures.keeps c.in_ok-failed-in-Both.ensures.moved
    (both_made t at.In_ok-id-in-Both (keeps t at.In_ok-failed-in-Both) (left t at.In_ok-failed-in-Both))
    c.in_ok-remember-in-Both.ensures
