-- Trees of packets that a tree gives, step by step.
use Rattle.std.proofs.Common.{ℕ, ◌<◌, ◌≡◌, ◌∙◌, List, length, Some, if◌then◌else◌, sym, ap, subst, eqb-true}
use Rattle.std.specs.Prelude.{◌==◌, slice_get}
use Rattle.std.specs.List.{Any}
use Rattle.indexmap.specs.IndexMap.{IndexMap, Updates}
use Rattle.pq_fields.specs.declared.field.Field.{Field}
use Rattle.pq_fields.specs.Writes.{Written, no_writes, on}
use Rattle.pq_store.specs.declared.test.Test.{Test}
use Rattle.pq_store.specs.Test.{passes}
use Rattle.pq_store.specs.Tree.{Tree, value}
use Rattle.pq_store.specs.Tree.Tree.{Fork, Tip}
use Rattle.pq_store.specs.Store.{Keeps, ShowsBranch}
use Rattle.pq_lists.proofs.Places.{at_place}
use Rattle.pq_store.proofs.RoomLemmas.{room_for}
use Rattle.pq_apply.specs.Memo.{Remembers}
use Rattle.pq_apply.proofs.Kept.{tree_before}
use Rattle.pq_apply.proofs.Remembered.{remembers_more, remembers_still}
use Rattle.pq_rewrite.specs.Choices.{ChoosesByAt, FitByAt, IsChoiceBy, passes_after, test_needs}
use Rattle.pq_rewrite.specs.Rewriting.{CoversWrites, Gives, IsGiven}
use Rattle.pq_rewrite.specs.Sequence.{AllReady, FitAsFollowedEachAt, FitAsSequence, FitAsSequenceAt, FollowsEachAt, IsInSequence, IsSequencedAt}
use Rattle.pq_rewrite.proofs.Diffs.{none_written, on_none}
use Rattle.pq_rewrite.proofs.Following.{chosen_given, covers_no, covers_yes, leaf_numbers, root_needs}

-- any numbers cover no writes
none_covered : (ns : Field → List ℕ) → CoversWrites ns no_writes
none_covered ns f n is = let none = none_written f in absurd cc

-- what comes in sequence on both sides of a fork comes so on the fork, by the root's test
both_sequenced : (s : Test) (y n u a b r : Tree (List Written)) → IsInSequence y u a → IsInSequence n u b
    → IsChoiceBy (passes_after no_writes s) (test_needs no_writes s) a b r
    → IsInSequence (Fork s y n) u r
both_sequenced s y n u a b r left right choice = record {
  giving = λ x fit ready.
      let is : value r x ≡ (if passes s x then value a x else value b x) = choice.gives x fit
      ∙ ap (λ z. if passes s z then value a x else value b x) (on_none x) in
      subst (IsGiven x (λ z. Any (λ w. Gives u (on w x) z) (value (Fork s y n) x))) (sym is)
      (chosen_given x (AllReady x u) (λ ws z. Any (λ w. Gives u (on w x) z) ws) (passes s x) (value y x) (value n x) (value a x) (value b x)
      (left.giving x fit) (right.giving x fit) ready);
  tests = λ ns first second.
      choice.tests ns (root_needs ns no_writes s y n (none_covered ns) first) (left.tests ns (covers_yes ns s y n first) second)
      (right.tests ns (covers_no ns s y n first) second);
}

-- a tree may come after both sides of a fork where it may come after the fork
yes_fits : (s : Test) (y n u : Tree (List Written)) → FitAsSequence (Fork s y n) u → FitAsSequence y u
yes_fits s y n u = room_for (λ ns within. (covers_yes ns s y n within.0, within.1))

no_fits : (s : Test) (y n u : Tree (List Written)) → FitAsSequence (Fork s y n) u → FitAsSequence n u
no_fits s y n u = room_for (λ ns within. (covers_no ns s y n within.0, within.1))

module _ (old mid : List (Tree (List Written))) (k i j l : ℕ) (s : Test) (inside : l < length old) (keeps : Keeps old mid) (shows : ShowsBranch old k s i j)
    (fits : FitAsSequenceAt old k l) where
  -- so it may in a store that has grown
  pub yes_behind : FitAsSequenceAt mid i l
  yes_behind t u t_is u_is =
      let y = shows.yes_tree in
      let n = shows.no_tree in
      let there = keeps i y shows.yes_is in
      let same : y ≡ t = cc in
      subst (λ v. FitAsSequence v u) same (yes_fits s y n u (fits (Fork s y n) u shows.is (tree_before old mid l u keeps inside u_is)))

  pub no_behind : FitAsSequenceAt mid j l
  no_behind t u t_is u_is =
      let y = shows.yes_tree in
      let n = shows.no_tree in
      let there = keeps j n shows.no_is in
      let same : n ≡ t = cc in
      subst (λ v. FitAsSequence v u) same (no_fits s y n u (fits (Fork s y n) u shows.is (tree_before old mid l u keeps inside u_is)))

-- what comes in sequence at a place comes so on the trees there
pub sequenced_there : (ts : List (Tree (List Written))) (k l id : ℕ) (t u r : Tree (List Written)) → IsSequencedAt ts k l id
    → slice_get ts k ≡ Some t → slice_get ts l ≡ Some u
    → slice_get ts id ≡ Some r → IsInSequence t u r
sequenced_there ts k l id t u r made t_is u_is r_is =
    let tree_is = made.tree_is in
    let second_is = made.second_is in
    let sequenced_is = made.sequenced_is in
    let t_same : made.tree ≡ t = cc in
    let u_same : made.second ≡ u = cc in
    let r_same : made.sequenced ≡ r = cc in
    subst (λ v. IsInSequence v u r) t_same (subst (λ v. IsInSequence made.tree v r) u_same (subst (IsInSequence made.tree made.second) r_same made.sequence))

-- and stays so
pub sequenced_still : (old new : List (Tree (List Written))) (k l id : ℕ) → Keeps old new → IsSequencedAt old k l id → IsSequencedAt new k l id
sequenced_still old new k l id keeps made = record {
  tree = made.tree;
  second = made.second;
  sequenced = made.sequenced;
  tree_is = keeps k made.tree made.tree_is;
  second_is = keeps l made.second made.second_is;
  sequenced_is = keeps id made.sequenced made.sequenced_is;
  sequence = made.sequence;
}

-- each of the writes at a leaf may come before the second tree
pub leaf_before : (ts : List (Tree (List Written))) (k l : ℕ) (ws : List Written) → slice_get ts k ≡ Some (Tip ws) → FitAsSequenceAt ts k l
    → FitAsFollowedEachAt ws ts l
leaf_before ts k l ws is fits u u_is = room_for (λ ns within. (leaf_numbers ns ws within.0, within.1)) (fits (Tip ws) u is u_is)

-- and what follows each is in sequence
pub leaf_sequenced : (old new : List (Tree (List Written))) (k l id : ℕ) (ws : List Written) → l < length old → Keeps old new
    → slice_get old k ≡ Some (Tip ws) → FollowsEachAt ws old l new id
    → IsSequencedAt new k l id
leaf_sequenced old new k l id ws inside keeps is each =
    let u = at_place old l inside in
    let made = each u.0 u.1 in
    let followed = made.2 in
    record {
      tree = Tip ws;
      second = u.0;
      sequenced = made.0;
      tree_is = keeps k (Tip ws) is;
      second_is = keeps l u.0 u.1;
      sequenced_is = made.1;
      sequence = record {
        giving = followed.giving;
        tests = λ ns first second. followed.tests ns (leaf_numbers ns ws first) second;
      };
    }

module _ (old mid : List (Tree (List Written))) (k i j l a b : ℕ) (s : Test) (inside : l < length old) (keeps : Keeps old mid) (shows : ShowsBranch old k s i j)
    (yes_made : IsSequencedAt mid i l a) (no_made : IsSequencedAt mid j l b) where
  -- the sequences of the sides may come together by the test
  pub both_meet : FitAsSequenceAt old k l → FitByAt (test_needs no_writes s) mid a b
  both_meet fits v w v_is w_is =
      let y = shows.yes_tree in
      let n = shows.no_tree in
      let u = at_place old l inside in
      let u_there = keeps l u.0 u.1 in
      let left = sequenced_there mid i l a y u.0 v yes_made (keeps i y shows.yes_is) u_there v_is in
      let right = sequenced_there mid j l b n u.0 w no_made (keeps j n shows.no_is) u_there w_is in
      room_for (λ ns within. (
        root_needs ns no_writes s y n (none_covered ns) within.0,
        left.tests ns (covers_yes ns s y n within.0) within.1,
        right.tests ns (covers_no ns s y n within.0) within.1,
      )) (fits (Fork s y n) u.0 shows.is u.1)

  -- and their choice is the sequence of the whole
  pub chosen_sequenced : (new : List (Tree (List Written))) (id : ℕ) → Keeps mid new
      → ChoosesByAt (passes_after no_writes s) (test_needs no_writes s) mid a b new id → IsSequencedAt new k l id
  chosen_sequenced new id grows chooses =
      let y = shows.yes_tree in
      let n = shows.no_tree in
      let u = at_place old l inside in
      let u_there = keeps l u.0 u.1 in
      let v = yes_made.sequenced in
      let w = no_made.sequenced in
      let chosen = chooses v w yes_made.sequenced_is no_made.sequenced_is in
      record {
        tree = Fork s y n;
        second = u.0;
        sequenced = chosen.0;
        tree_is = grows k (Fork s y n) (keeps k (Fork s y n) shows.is);
        second_is = grows l u.0 u_there;
        sequenced_is = chosen.1;
        sequence = both_sequenced s y n u.0 v w chosen.0 (sequenced_there mid i l a y u.0 v yes_made (keeps i y shows.yes_is) u_there yes_made.sequenced_is)
            (sequenced_there mid j l b n u.0 w no_made (keeps j n shows.no_is) u_there no_made.sequenced_is) chosen.2;
      }

-- what is remembered of sequences stays true
pub done_still : {S : Type 0} (l : ℕ) (old new : List (Tree (List Written))) (done : IndexMap ℕ ℕ S) → Keeps old new
    → Remembers (λ x y. x == y) (λ key id. IsSequencedAt old key l id) done → Remembers (λ x y. x == y) (λ key id. IsSequencedAt new key l id) done
done_still l old new done keeps remembers =
    remembers_still (λ x y. x == y) (λ key id. IsSequencedAt old key l id) (λ key id. IsSequencedAt new key l id) done
    (λ key id made. sequenced_still old new key l id keeps made) remembers

-- and one more is remembered
pub done_more : {S : Type 0} (l : ℕ) (old new : List (Tree (List Written))) (k id : ℕ) (done more : IndexMap ℕ ℕ S) → Keeps old new
    → Remembers (λ x y. x == y) (λ key i. IsSequencedAt old key l i) done → IsSequencedAt new k l id → Updates (λ x y. x == y) done more k (Some id)
    → Remembers (λ x y. x == y) (λ key i. IsSequencedAt new key l i) more
done_more l old new k id done more keeps remembers made updates =
    remembers_more (λ x y. x == y) (λ key i. IsSequencedAt new key l i) done more k id (λ x y same. eqb-true x y same)
    (done_still l old new done keeps remembers) made updates
