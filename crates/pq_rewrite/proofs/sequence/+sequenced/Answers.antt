use Rattle.std.proofs.Common.{◌≡◌, ◌∙◌, ℕ, subst, sym, arith}
use Rattle.std.proofs.lemmas.Option.{slice_get_within}
use Rattle.pq_store.specs.Store.{Keeps}
use Rattle.pq_store.specs.Tree.Tree.{Fork}
use Rattle.pq_apply.proofs.Kept.{keeps_on, within_still}
use Rattle.pq_rewrite.specs.Choices.{ChoosesByAt, FitByAt, passes_after, test_needs}
use Rattle.pq_rewrite.specs.Sequence.{FitAsFollowedEachAt, FollowsEachAt, IsSequencedAt}
use Rattle.pq_rewrite.proofs.Following.{moved_still}
use Rattle.pq_rewrite.proofs.Sequences.{both_meet, chosen_sequenced, done_more, leaf_before, leaf_sequenced, no_behind, sequenced_still, yes_behind}
use Rattle.pq_rewrite.proofs.sequence.+sequenced.Goals as goal
use Rattle.pq_rewrite.proofs.sequence.+sequenced.Goals.{In_ok-failed-in-Node, In_ok-id-in-Leaf, In_ok-id-in-Node, After-deref}

-- the writes at the leaf
first : (t : ℕ) (c : After-deref t) → c.deref.result.now ≡ c.in-Leaf.set.now
first t c = c.deref.ensures.value ∙ (c.in_ok-first-in-Leaf.ensures.items ∙ c.list.ensures.list)

pub followed_by_each-requires-clause-fit : goal.followed_by_each-requires-clause-fit
followed_by_each-requires-clause-fit t c =
    subst (λ vs. FitAsFollowedEachAt vs c.args.store.now c.args.second) (sym (first t (goal.at.followed_by_each-requires-clause-fit t c).After-deref))
    (leaf_before c.args.store.now c.args.node c.args.second c.in-Leaf.set.now c.in-Leaf.ensures.shows c.requires.fit)

pub sequenced-requires : goal.sequenced-requires
sequenced-requires t c =
    let shows = c.in-Node.ensures.shows in
    let below = shows.yes_below in
    let whole : c.args.node ≡ t = c.decreases in
    let within = slice_get_within c.args.store.now c.in-Node.yes shows.yes_tree shows.yes_is in
    let fits = yes_behind c.args.store.now c.args.store.now c.args.node c.in-Node.yes c.in-Node.no c.args.second c.in-Node.test
    c.requires.second (λ k u is. is) shows c.requires.fit in
    (omega arith, (within, (c.requires.second, (fits, (c.requires.moved, c.requires.done)))))

pub sequenced-requires-in-Node : goal.sequenced-requires-in-Node
sequenced-requires-in-Node t c =
    let shows = c.in-Node.ensures.shows in
    let below = shows.no_below in
    let whole : c.args.node ≡ t = c.decreases in
    let kept = c.sequenced.ensures.keeps in
    let within = slice_get_within c.sequenced.new.store c.in-Node.no shows.no_tree (kept c.in-Node.no shows.no_tree shows.no_is) in
    let inside = within_still c.args.store.now c.sequenced.new.store c.args.second kept c.requires.second in
    let fits = no_behind c.args.store.now c.sequenced.new.store c.args.node c.in-Node.yes c.in-Node.no c.args.second c.in-Node.test
    c.requires.second kept shows c.requires.fit in
    (omega arith, (within, (inside, (fits, (c.in_ok-passed-in-Node.ensures.moved, c.in_ok-passed-in-Node.ensures.done)))))

-- the trees are kept while both sides are sequenced
keeps : (t : ℕ) (c : In_ok-failed-in-Node t) → Keeps c.args.store.now c.sequenced-in-Node.new.store
keeps t c = keeps_on c.args.store.now c.sequenced.new.store c.sequenced-in-Node.new.store c.sequenced.ensures.keeps c.sequenced-in-Node.ensures.keeps

-- the sequence of the yes side stays
left : (t : ℕ) (c : In_ok-failed-in-Node t) → IsSequencedAt c.sequenced-in-Node.new.store c.in-Node.yes c.args.second c.in_ok-passed-in-Node.passed
left t c =
    sequenced_still c.sequenced.new.store c.sequenced-in-Node.new.store c.in-Node.yes c.args.second c.in_ok-passed-in-Node.passed
    c.sequenced-in-Node.ensures.keeps
    c.in_ok-passed-in-Node.ensures.sequenced

pub where_passed-requires-clause-lawful : goal.where_passed-requires-clause-lawful
where_passed-requires-clause-lawful t c =
    let shows = c.in-Node.ensures.shows in
    (c.in-Node.ensures.diagrams c.args.node (Fork c.in-Node.test shows.yes_tree shows.no_tree) shows.is).lawful.0

pub where_passed-requires-clause-yes : goal.where_passed-requires-clause-yes
where_passed-requires-clause-yes t c =
    let made = left t (goal.at.where_passed-requires-clause-yes t c).In_ok-failed-in-Node in
    slice_get_within c.sequenced-in-Node.new.store c.in_ok-passed-in-Node.passed made.sequenced made.sequenced_is

pub where_passed-requires-clause-no : goal.where_passed-requires-clause-no
where_passed-requires-clause-no t c =
    let made = c.in_ok-failed-in-Node.ensures.sequenced in
    slice_get_within c.sequenced-in-Node.new.store c.in_ok-failed-in-Node.failed made.sequenced made.sequenced_is

pub where_passed-requires-clause-fit : goal.where_passed-requires-clause-fit
where_passed-requires-clause-fit t c =
    let at = (goal.at.where_passed-requires-clause-fit t c).In_ok-failed-in-Node in
    subst (λ w. FitByAt (test_needs w c.in-Node.test) c.sequenced-in-Node.new.store c.in_ok-passed-in-Node.passed
    c.in_ok-failed-in-Node.failed) (sym c.none.ensures)
    (both_meet c.args.store.now c.sequenced-in-Node.new.store c.args.node c.in-Node.yes c.in-Node.no c.args.second
    c.in_ok-passed-in-Node.passed c.in_ok-failed-in-Node.failed
    c.in-Node.test c.requires.second (keeps t at) c.in-Node.ensures.shows (left t at) c.in_ok-failed-in-Node.ensures.sequenced c.requires.fit)

-- the sequence of a leaf
leaf_made : (t : ℕ) (c : In_ok-id-in-Leaf t) → c.deref.result.now ≡ c.in-Leaf.set.now
    → IsSequencedAt c.followed_by_each.new.store c.args.node c.args.second c.in_ok-id-in-Leaf.id
leaf_made t c same =
    leaf_sequenced c.args.store.now c.followed_by_each.new.store c.args.node c.args.second c.in_ok-id-in-Leaf.id c.in-Leaf.set.now
    c.requires.second c.followed_by_each.ensures.keeps
    c.in-Leaf.ensures.shows
    (subst (λ vs. FollowsEachAt vs c.args.store.now c.args.second c.followed_by_each.new.store c.in_ok-id-in-Leaf.id) same
    c.in_ok-id-in-Leaf.ensures.follows)

pub returns-in_ok-remember-in-Leaf-clause-sequenced : goal.returns-in_ok-remember-in-Leaf-clause-sequenced
returns-in_ok-remember-in-Leaf-clause-sequenced t c =
    let at = goal.at.returns-in_ok-remember-in-Leaf-clause-sequenced t c in leaf_made t at.In_ok-id-in-Leaf (first t at.After-deref)

pub returns-in_ok-remember-in-Leaf-clause-done : goal.returns-in_ok-remember-in-Leaf-clause-done
returns-in_ok-remember-in-Leaf-clause-done t c =
    let at = goal.at.returns-in_ok-remember-in-Leaf-clause-done t c in
    done_more c.args.second c.args.store.now c.followed_by_each.new.store c.args.node c.in_ok-id-in-Leaf.id c.args.done.now
    c.remember.new.done c.followed_by_each.ensures.keeps
    c.requires.done (leaf_made t at.In_ok-id-in-Leaf (first t at.After-deref)) c.in_ok-remember-in-Leaf.ensures

-- the choice between the sequences of the sides is that of the whole
both_made : (t : ℕ) (c : In_ok-id-in-Node t) → Keeps c.args.store.now c.sequenced-in-Node.new.store
    → IsSequencedAt c.sequenced-in-Node.new.store c.in-Node.yes c.args.second c.in_ok-passed-in-Node.passed
    → IsSequencedAt c.where_passed.new.store c.args.node c.args.second c.in_ok-id-in-Node.id
both_made t c kept yes_made =
    chosen_sequenced c.args.store.now c.sequenced-in-Node.new.store c.args.node c.in-Node.yes c.in-Node.no c.args.second
    c.in_ok-passed-in-Node.passed c.in_ok-failed-in-Node.failed
    c.in-Node.test c.requires.second kept c.in-Node.ensures.shows yes_made c.in_ok-failed-in-Node.ensures.sequenced c.where_passed.new.store
    c.in_ok-id-in-Node.id c.where_passed.ensures.keeps
    (subst (λ w. ChoosesByAt (passes_after w c.in-Node.test)
    (test_needs w c.in-Node.test) c.sequenced-in-Node.new.store c.in_ok-passed-in-Node.passed c.in_ok-failed-in-Node.failed
    c.where_passed.new.store c.in_ok-id-in-Node.id) c.none.ensures c.in_ok-id-in-Node.ensures.chooses)

pub returns-in_ok-remember-in-Node-clause-sequenced : goal.returns-in_ok-remember-in-Node-clause-sequenced
returns-in_ok-remember-in-Node-clause-sequenced t c =
    let at = goal.at.returns-in_ok-remember-in-Node-clause-sequenced t c in
    both_made t at.In_ok-id-in-Node (keeps t at.In_ok-failed-in-Node) (left t at.In_ok-failed-in-Node)

pub returns-in_ok-remember-in-Node-clause-moved : goal.returns-in_ok-remember-in-Node-clause-moved
returns-in_ok-remember-in-Node-clause-moved t c =
    moved_still c.sequenced-in-Node.new.store c.where_passed.new.store c.sequenced-in-Node.new.moved c.where_passed.ensures.keeps
    c.in_ok-failed-in-Node.ensures.moved

pub returns-in_ok-remember-in-Node-clause-done : goal.returns-in_ok-remember-in-Node-clause-done
returns-in_ok-remember-in-Node-clause-done t c =
    let at = goal.at.returns-in_ok-remember-in-Node-clause-done t c in
    done_more c.args.second c.sequenced-in-Node.new.store c.where_passed.new.store c.args.node c.in_ok-id-in-Node.id
    c.sequenced-in-Node.new.done c.remember-in-Node.new.done
    c.where_passed.ensures.keeps c.in_ok-failed-in-Node.ensures.done
    (both_made t at.In_ok-id-in-Node (keeps t at.In_ok-failed-in-Node) (left t at.In_ok-failed-in-Node))
    c.in_ok-remember-in-Node.ensures
