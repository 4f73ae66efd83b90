-- Trees of packets that are written first, step by step.
use Rattle.std.proofs.Common.{ℕ, ◌<◌, ◌≡◌, ◌∙◌, Bool, true, false, List, Some, if◌then◌else◌, inl, inr, refl, sym, ap, subst, eqb-true, arith}
use Rattle.std.specs.Prelude.{◌==◌, slice_get}
use Rattle.std.specs.Cmp.{first_so, second_so}
use Rattle.std.specs.List.{All}
use Rattle.std.proofs.lemmas.List.Elements.{All-weaker}
use Rattle.indexmap.specs.IndexMap.{IndexMap, Updates}
use Rattle.pq_fields.specs.declared.field.Field.{Field}
use Rattle.pq_fields.specs.Order.{writes_eq}
use Rattle.pq_fields.specs.Packet.{Numbers}
use Rattle.pq_fields.specs.Writes.{Written, AllFit, no_writes, on}
use Rattle.pq_fields.proofs.Places.{same_writes}
use Rattle.pq_store.specs.declared.test.Test.{Test}
use Rattle.pq_store.specs.Test.{field_of}
use Rattle.pq_store.specs.Tree.{Tree, value}
use Rattle.pq_store.specs.Tree.Tree.{Fork, Tip}
use Rattle.pq_store.specs.Store.{HasAt, Keeps, ShowsBranch}
use Rattle.pq_store.proofs.RoomLemmas.{room_for}
use Rattle.pq_apply.specs.Memo.{Remembers}
use Rattle.pq_apply.proofs.Remembered.{remembers_more, remembers_still}
use Rattle.pq_rewrite.specs.declared.written.Step.TheVariants.{Side}
use Rattle.pq_rewrite.specs.Choices.{ChoosesByAt, FitByAt, IsChoiceBy, IsStepAt, passes_after, test_needs}
use Rattle.pq_rewrite.specs.Rewriting.{CoversWrites, Gives, IsGiven, IsWrittenBy}
use Rattle.pq_rewrite.specs.Sequence.{AreReady, CoversLeaves, FitAsFollowed, FitAsFollowedAt, FitInTurn, IsFollowed, IsFollowedAt, IsInTurn, same_move}
use Rattle.pq_rewrite.proofs.Diffs.{on_none}
use Rattle.pq_rewrite.proofs.Told.{test_within}

-- what holds of both sides holds of one
pub either_side : {A : Type 0} (P : A → Type 0) (b : Bool) (y n : A) → P y → P n → P (if b then y else n)
either_side P true y n left right = left
either_side P false y n left right = right

-- what covers a fork covers its yes side
pub covers_yes : (ns : Field → List ℕ) (s : Test) (y n : Tree (List Written)) → CoversLeaves ns (Fork s y n) → CoversLeaves ns y
covers_yes ns s y n covers = record { tests = λ f v tested. covers.tests f v (inr (inl tested)); leaves = λ l part. covers.leaves l (inr (inl part)) }

-- and its no side
pub covers_no : (ns : Field → List ℕ) (s : Test) (y n : Tree (List Written)) → CoversLeaves ns (Fork s y n) → CoversLeaves ns n
covers_no ns s y n covers = record { tests = λ f v tested. covers.tests f v (inr (inr tested)); leaves = λ l part. covers.leaves l (inr (inr part)) }

-- with the numbers of writes that come first, it covers what a choice by the root needs
pub root_needs : (ns : Field → List ℕ) (w : Written) (s : Test) (y n : Tree (List Written)) → CoversWrites ns w
    → CoversLeaves ns (Fork s y n) → test_needs w s ns
root_needs ns w s y n first covers = (test_within ns s y n covers.tests, λ m is. (first (field_of s) m is).1)

-- what is given by one of two lists where one of two is to be given, and is ready
pub chosen_given : (x : Numbers) (R : List Written → Type 0) (F : List Written → Numbers → Type 0) (b : Bool) (ws vs us others : List Written)
    → (R ws → IsGiven x (F ws) us) → (R vs → IsGiven x (F vs) others) → R (if b then ws else vs)
    → IsGiven x (F (if b then ws else vs)) (if b then us else others)
chosen_given x R F true ws vs us others left right = left
chosen_given x R F false ws vs us others left right = right

-- what follows writes on both sides of a fork follows them on the fork, by the root's test
both_followed : (w : Written) (s : Test) (y n a b r : Tree (List Written)) → IsFollowed w y a → IsFollowed w n b
    → IsChoiceBy (passes_after w s) (test_needs w s) a b r
    → IsFollowed w (Fork s y n) r
both_followed w s y n a b r left right choice = record {
  giving = λ x fit ready. subst (IsGiven x (Gives (Fork s y n) (on w x))) (sym (choice.gives x fit))
      (chosen_given x (AreReady x w) (IsWrittenBy (on w x)) (passes_after w s x) (value y (on w x)) (value n (on w x)) (value a x) (value b x)
      (left.giving x fit) (right.giving x fit) ready);
  tests = λ ns first covers.
      choice.tests ns (root_needs ns w s y n first covers) (left.tests ns first (covers_yes ns s y n covers))
      (right.tests ns first (covers_no ns s y n covers));
}

-- what follows them on the one side that packets reach follows them on the fork
side_followed : (w : Written) (s : Test) (y n r : Tree (List Written)) (answer : Bool) → ((x : Numbers) → passes_after w s x ≡ answer)
    → IsFollowed w (if answer then y else n) r
    → IsFollowed w (Fork s y n) r
side_followed w s y n r true answers followed = record {
  giving = λ x fit ready.
      let is = ap (λ b. if b then value y (on w x) else value n (on w x)) (answers x) in
      subst (λ ws. IsGiven x (IsWrittenBy (on w x) ws) (value r x)) (sym is) (followed.giving x fit (subst (AreReady x w) is ready));
  tests = λ ns first covers. followed.tests ns first (covers_yes ns s y n covers);
}
side_followed w s y n r false answers followed = record {
  giving = λ x fit ready.
      let is = ap (λ b. if b then value y (on w x) else value n (on w x)) (answers x) in
      subst (λ ws. IsGiven x (IsWrittenBy (on w x) ws) (value r x)) (sym is) (followed.giving x fit (subst (AreReady x w) is ready));
  tests = λ ns first covers. followed.tests ns first (covers_no ns s y n covers);
}

-- writes may come before both sides of a fork where they may come before the fork
yes_fits : (w : Written) (s : Test) (y n : Tree (List Written)) → FitAsFollowed w (Fork s y n) → FitAsFollowed w y
yes_fits w s y n = room_for (λ ns within. (within.0, covers_yes ns s y n within.1))

no_fits : (w : Written) (s : Test) (y n : Tree (List Written)) → FitAsFollowed w (Fork s y n) → FitAsFollowed w n
no_fits w s y n = room_for (λ ns within. (within.0, covers_no ns s y n within.1))

-- the one side of a node that packets reach once they are written
pub record IsSideReached (w : Written) (ts : List (Tree (List Written))) (k next : ℕ) : Type 0 where
  pub test : Test
  pub yes_tree : Tree (List Written)
  pub no_tree : Tree (List Written)
  pub answer : Bool
  pub is : slice_get ts k ≡ Some (Fork test yes_tree no_tree)
  pub side_is : slice_get ts next ≡ Some (if answer then yes_tree else no_tree)
  pub below : next < k
  pub answers : (x : Numbers) → passes_after w test x ≡ answer

pub reached : (w : Written) (ts : List (Tree (List Written))) (k next : ℕ) → IsStepAt w ts k (Side next) → IsSideReached w ts k next
reached w ts k next (s, i, j, shows, answer, answers, is) = record {
  test = s;
  yes_tree = shows.yes_tree;
  no_tree = shows.no_tree;
  answer = answer;
  is = shows.is;
  side_is = ap (slice_get ts) is ∙ at answer;
  below = under answer is;
  answers = answers;
}
  where
    at : (b : Bool) → slice_get ts (if b then i else j) ≡ Some (if b then shows.yes_tree else shows.no_tree)
    at true = shows.yes_is
    at false = shows.no_is

    under : (b : Bool) → next ≡ (if b then i else j) → next < k
    under true same = let low = shows.yes_below in omega arith
    under false same = let low = shows.no_below in omega arith

-- writes may come before it
pub side_fits : (w : Written) (ts : List (Tree (List Written))) (k next : ℕ) → IsSideReached w ts k next → FitAsFollowedAt w ts k → FitAsFollowedAt w ts next
side_fits w ts k next side fits u u_is =
    let s = side.test in
    let y = side.yes_tree in
    let n = side.no_tree in
    let whole = fits (Fork s y n) side.is in
    let there = side.side_is in
    let same : (if side.answer then y else n) ≡ u = cc in
    subst (FitAsFollowed w) same (either_side (FitAsFollowed w) side.answer y n (yes_fits w s y n whole) (no_fits w s y n whole))

module _ (w : Written) (old mid : List (Tree (List Written))) (k i j : ℕ) (s : Test) (keeps : Keeps old mid)
    (shows : ShowsBranch old k s i j) (fits : FitAsFollowedAt w old k) where
  -- and before both sides, in a store that has grown
  pub yes_side_fits : FitAsFollowedAt w mid i
  yes_side_fits u u_is =
      let y = shows.yes_tree in
      let n = shows.no_tree in
      let there = keeps i y shows.yes_is in
      let same : y ≡ u = cc in
      subst (FitAsFollowed w) same (yes_fits w s y n (fits (Fork s y n) shows.is))

  pub no_side_fits : FitAsFollowedAt w mid j
  no_side_fits u u_is =
      let y = shows.yes_tree in
      let n = shows.no_tree in
      let there = keeps j n shows.no_is in
      let same : n ≡ u = cc in
      subst (FitAsFollowed w) same (no_fits w s y n (fits (Fork s y n) shows.is))

-- what follows writes at a place is what follows them on the tree there
pub followed_there : (w : Written) (ts : List (Tree (List Written))) (k id : ℕ) (t r : Tree (List Written)) → IsFollowedAt w ts k id
    → slice_get ts k ≡ Some t → slice_get ts id ≡ Some r
    → IsFollowed w t r
followed_there w ts k id t r made t_is r_is =
    let tree_is = made.tree_is in
    let followed_is = made.followed_is in
    let t_same : made.tree ≡ t = cc in
    let r_same : made.followed ≡ r = cc in
    subst (λ u. IsFollowed w u r) t_same (subst (IsFollowed w made.tree) r_same made.follows)

-- and stays so
pub followed_still : (w : Written) (old new : List (Tree (List Written))) (k id : ℕ) → Keeps old new → IsFollowedAt w old k id → IsFollowedAt w new k id
followed_still w old new k id keeps made = record {
  tree = made.tree;
  followed = made.followed;
  tree_is = keeps k made.tree made.tree_is;
  followed_is = keeps id made.followed made.followed_is;
  follows = made.follows;
}

-- the numbers of the writes at a leaf are among those that cover it
pub leaf_numbers : (ns : Field → List ℕ) (ws : List Written) → CoversLeaves ns (Tip ws) → All (CoversWrites ns) ws
leaf_numbers ns ws covers = All-weaker (λ v. AllFit v × CoversWrites ns v) (CoversWrites ns) (λ v both. both.1) ws (covers.leaves ws refl)

-- so these may come in turn
pub leaf_fits : (w : Written) (ts : List (Tree (List Written))) (k : ℕ) (ws : List Written) → slice_get ts k ≡ Some (Tip ws)
    → FitAsFollowedAt w ts k → FitInTurn ws
leaf_fits w ts k ws is fits =
    let fit = fits (Tip ws) is in
    let covers = fit.within.1 in (
      All-weaker (λ v. AllFit v × CoversWrites fit.numbers v) AllFit (λ v both. both.0) ws (covers.leaves ws refl),
      room_for (λ ns within. leaf_numbers ns ws within.1) fit,
    )

-- and in turn they follow
pub leaf_followed : (w : Written) (old new : List (Tree (List Written))) (k id : ℕ) (ws : List Written) → Keeps old new
    → slice_get old k ≡ Some (Tip ws) → HasAt (IsInTurn w ws) new id
    → IsFollowedAt w new k id
leaf_followed w old new k id ws keeps is made =
    let turn = made.2 in
    record {
      tree = Tip ws;
      followed = made.0;
      tree_is = keeps k (Tip ws) is;
      followed_is = made.1;
      follows = record {
        giving = λ x fit ready. turn.giving x fit ready.first ready.next.idle_free;
        tests = λ ns first covers. turn.tests ns (leaf_numbers ns ws covers);
      };
    }

-- no writes leave an idle-free tree as it is
pub itself_followed : (w : Written) (ts : List (Tree (List Written))) (k : ℕ) (u : Tree (List Written)) → w ≡ no_writes
    → slice_get ts k ≡ Some u → IsFollowedAt w ts k k
itself_followed w ts k u none is = record {
  tree = u;
  followed = u;
  tree_is = is;
  followed_is = is;
  follows = record {
    giving = λ x fit ready. subst (λ z. IsGiven z (Gives u (on w x)) (value u z)) (ap (λ v. on v x) none ∙ on_none x) ready.next;
    tests = λ ns first covers. covers.tests;
  };
}

-- what follows on the side that is reached follows on the whole
pub reached_followed : (w : Written) (old new : List (Tree (List Written))) (k next id : ℕ) → Keeps old new → IsSideReached w old k next
    → IsFollowedAt w new next id → IsFollowedAt w new k id
reached_followed w old new k next id keeps side made =
    let y = side.yes_tree in
    let n = side.no_tree in
    let whole = Fork side.test y n in
    let there = keeps next (if side.answer then y else n) side.side_is in
    record {
      tree = whole;
      followed = made.followed;
      tree_is = keeps k whole side.is;
      followed_is = made.followed_is;
      follows = side_followed w side.test y n made.followed side.answer side.answers
          (followed_there w new next id (if side.answer then y else n) made.followed made there made.followed_is);
    }

module _ (w : Written) (old mid : List (Tree (List Written))) (k i j a b : ℕ) (s : Test) (keeps : Keeps old mid) (shows : ShowsBranch old k s i j)
    (yes_made : IsFollowedAt w mid i a) (no_made : IsFollowedAt w mid j b) where
  -- what follows on the sides may come together by the test
  pub both_fit : FitAsFollowedAt w old k → FitByAt (test_needs w s) mid a b
  both_fit fits u v u_is v_is =
      let y = shows.yes_tree in
      let n = shows.no_tree in
      let left = followed_there w mid i a y u yes_made (keeps i y shows.yes_is) u_is in
      let right = followed_there w mid j b n v no_made (keeps j n shows.no_is) v_is in
      room_for (λ ns within. (
        root_needs ns w s y n within.0 within.1,
        left.tests ns within.0 (covers_yes ns s y n within.1),
        right.tests ns within.0 (covers_no ns s y n within.1),
      )) (fits (Fork s y n) shows.is)

  -- and their choice follows on the whole
  pub chosen_followed : (new : List (Tree (List Written))) (id : ℕ) → Keeps mid new
      → ChoosesByAt (passes_after w s) (test_needs w s) mid a b new id → IsFollowedAt w new k id
  chosen_followed new id grows chooses =
      let y = shows.yes_tree in
      let n = shows.no_tree in
      let u = yes_made.followed in
      let v = no_made.followed in
      let chosen = chooses u v yes_made.followed_is no_made.followed_is in
      record {
        tree = Fork s y n;
        followed = chosen.0;
        tree_is = grows k (Fork s y n) (keeps k (Fork s y n) shows.is);
        followed_is = chosen.1;
        follows = both_followed w s y n u v chosen.0 (followed_there w mid i a y u yes_made (keeps i y shows.yes_is) yes_made.followed_is)
            (followed_there w mid j b n v no_made (keeps j n shows.no_is) no_made.followed_is) chosen.2;
      }

-- writes and an id that compare as equal are one
move_exact : (p q : Written × ℕ) → same_move p q ≡ true → p ≡ q
move_exact p q same =
    let first : p.0 ≡ q.0 = (same_writes p.0 q.0).0 (first_so (writes_eq p.0 q.0) (p.1 == q.1) same) in
    let second : p.1 ≡ q.1 = eqb-true p.1 q.1 (second_so (writes_eq p.0 q.0) (p.1 == q.1) same) in
    λ i. (first i, second i)

-- what is remembered of writes and trees stays true
pub moved_still : {S : Type 0} (old new : List (Tree (List Written))) (moved : IndexMap (Written × ℕ) ℕ S) → Keeps old new
    → Remembers same_move (λ key id. IsFollowedAt key.0 old key.1 id) moved → Remembers same_move (λ key id. IsFollowedAt key.0 new key.1 id) moved
moved_still old new moved keeps remembers =
    remembers_still same_move (λ key id. IsFollowedAt key.0 old key.1 id) (λ key id. IsFollowedAt key.0 new key.1 id) moved
    (λ key id made. followed_still key.0 old new key.1 id keeps made) remembers

-- and one more is remembered
pub moved_more : {S : Type 0} (w : Written) (old new : List (Tree (List Written))) (k id : ℕ) (moved more : IndexMap (Written × ℕ) ℕ S) → Keeps old new
    → Remembers same_move (λ key i. IsFollowedAt key.0 old key.1 i) moved → IsFollowedAt w new k id → Updates same_move moved more (w, k) (Some id)
    → Remembers same_move (λ key i. IsFollowedAt key.0 new key.1 i) more
moved_more w old new k id moved more keeps remembers made updates =
    remembers_more same_move (λ key i. IsFollowedAt key.0 new key.1 i) moved more (w, k) id move_exact (moved_still old new moved keeps remembers) made updates
